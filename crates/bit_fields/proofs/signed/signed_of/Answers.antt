-- The bits go to the top of a word and down again.
use mathlib.Core.Path.{ap, ◌∙◌}
use Prim.Native.Nat.{ℕ, ◌-◌, ◌^◌}
use lib.IntN.{ℤ}
use lib.Signed.{shr_z, mag_shr}
use mir.Syntax.{w64}
use mir.Val.{to_z, of_z, SFits}
use mir.ValLaws.{sfits_le}
use mir.Facts.{to_z-of_z}
use Rattle.bit_fields.proofs.Signs.{word_signed, from_the_top}
use Rattle.bit_fields.proofs.signed.signed_of.Goals as goal

pub returns : goal.returns
returns c =
    let a = c.args in
    let pre = c.requires in
    let up : ℕ = 2 ^ (64 - a.width) in
    let fits : SFits w64 c.cast_signed.result = record { sfits = c.cast_signed.type_inv } in
    ap (λ (z : ℤ). to_z w64 (of_z w64 (shr_z z up))) (to_z-of_z {w = w64} fits)
    ∙ to_z-of_z {w = w64} (sfits_le (mag_shr c.cast_signed.result up) fits)
    ∙ ap (λ (z : ℤ). shr_z z up) (c.cast_signed.ensures ∙ word_signed _)
    ∙ from_the_top a.width a.x pre.0 pre.1 pre.2
