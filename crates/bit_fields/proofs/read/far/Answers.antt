-- A word, and the byte above it.
use mathlib.Core.Path.{ap, ◌∙◌}
use Prim.Native.Nat.{ℕ}
use lib.ListN.{get_or}
use Rattle.definitions.specs.Bytes.{number_of, span}
use Rattle.bit_fields.proofs.Ways.{far}
use Rattle.bit_fields.proofs.read.far.Goals as goal

pub returns : goal.returns
returns g c =
    let a = c.args in
    far g.O.ByteOrder.order a.s.now a.at a.count a.offset c.cut_nine.ensures
    (ap (λ (k : ℕ). get_or a.s.now k 0) c.upper.ensures)
    (c.few_bytes-word.ensures ∙ ap (λ (k : ℕ). number_of g.O.ByteOrder.order (span a.s.now k 8)) c.lower.ensures)
    c.requires.2 c.requires.3
