-- `sign::double_of_signed` meets its contract: an integer by its sign and its magnitude.
use mathlib.Core.Path.{◌≡◌, sym, ap, ap₂, ◌∙◌}
use mathlib.Core.Bool.{Bool, false}
use native.Mathlib.Omega.{arith}
use lib.Dec.{ltb}
use lib.IntN.{ℤ, pos, negsuc, nat_abs}
use lib.Signed.{lt_z}
use mir.Syntax.{w64}
use mir.ValLaws.{to_z-of_z}
use borrow.Author.Tests.{le-ltb}
use Rattle.definitions.specs.Ieee754.{double_of, double_of_sign}
use Rattle.doubles.proofs.Whole.{of_positive, of_negative}
use Rattle.doubles.proofs.sign.double_of_signed.Goals as goal

parts : (n : ℤ) → double_of_sign (lt_z n (pos 0)) (nat_abs n) ≡ double_of n
parts (pos k) =
    let clear : ltb k 0 ≡ false = le-ltb k 0 (omega arith) in
    ap (λ (s : Bool). double_of_sign s k) clear ∙ sym (of_positive k)
parts (negsuc k) = sym (of_negative k)

pub returns : goal.returns
returns c =
    let same = to_z-of_z w64 c.args.n c.ranges.n in
    c.double_of_sign.ensures
    ∙ ap₂ double_of_sign (ap (λ (z : ℤ). lt_z z (pos 0)) same) (c.unsigned_abs.ensures.value ∙ ap nat_abs same) ∙ parts c.args.n
