-- Two words are the same where their four bytes are.
use Rattle.words.proofs.Ids.{id_words}
use Rattle.words.proofs.id.same_word.Goals as goal

pub returns : goal.returns
returns c =
    id_words c.args.s.now c.args.id.now c.args.at c.requires.0 c.requires.1 (λ i. (c.type_inv.s i).fits) (λ i. (c.type_inv.id i).fits)
    c.le_bytes.ensures.0 c.le_bytes-2.ensures.0
