use Rattle.std.proofs.lemmas.Result.{err_from_is_err_and}
use Rattle.definitions.specs.Chain.{data_length}
use Rattle.chain.proofs.acceptance.data_length.Goals as goal

pub returns-in_err-located : goal.returns-in_err-located
unfolding data_length
returns-in_err-located c =
    let p = err_from_is_err_and c.from_residual.result c.from_residual.ensures.1 in
    rw (p.1, p.2) c.in_err-located.ensures.replied

pub returns : goal.returns
unfolding data_length
returns c = c.in_ok-located.ensures.replied
