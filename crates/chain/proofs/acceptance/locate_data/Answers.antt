use Rattle.chain.proofs.Walks.{length_refused_law, located_refused}
use Rattle.chain.proofs.acceptance.locate_data.Goals as goal

pub returns-then-file-gt-FILE_LIMIT : goal.returns-then-file-gt-FILE_LIMIT
returns-then-file-gt-FILE_LIMIT c =
    let a = c.args in
    located_refused _ _ _ _ _ _ (length_refused_law a.file.now a.start.0 a.id.now c.if-file-gt-FILE_LIMIT.true)
