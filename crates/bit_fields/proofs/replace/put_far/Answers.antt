-- The word is stored, and then the byte above it.
use mathlib.Core.Path.{sym, ap, ◌∙◌}
use Prim.Native.Nat.{ℕ}
use lib.ListN.{get_or, set}
use lib.Seq.{sets}
use Rattle.definitions.specs.Bytes.{number_of, bytes_of, span}
use Rattle.bit_fields.proofs.WaysBack.{far_bytes, far_stored}
use Rattle.bit_fields.proofs.replace.put_far.Goals as goal

pub returns : goal.returns
returns g c =
    let a = c.args in
    let order = g.O.ByteOrder.order in
    let word = c.with_low_bits-word.result in
    let byte = c.with_high_bits-byte.result in
    far_stored order a.s.now a.at byte word
    (c.put_few.ensures ∙ ap (λ (k : ℕ). sets a.s.now k (bytes_of order 8 word)) c.lower-low.ensures)
    (ap (λ (k : ℕ). set c.put_few.new.out k byte) c.upper-top.ensures)
    ∙ sym
    (far_bytes order a.s.now a.at a.offset a.count a.x (λ i. (c.slice_known-1.given i).fits) c.requires.3 c.requires.0 c.requires.1 c.requires.2 c.requires.4
    (c.few_bytes.ensures ∙ ap (λ (k : ℕ). number_of order (span a.s.now k 8)) c.lower-low.ensures)
    (ap (λ (k : ℕ). get_or a.s.now k 0) c.upper-top.ensures) c.with_low_bits-word.ensures c.with_high_bits-byte.ensures)
