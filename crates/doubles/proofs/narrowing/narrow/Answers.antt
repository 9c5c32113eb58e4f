-- `narrowing::narrow` meets its contract: the only pattern that can widen to the double's is tried.
use mathlib.Core.Path.{sym, ap, ◌∙◌, subst}
use Prim.Native.Nat.{ℕ}
use lib.Bits.{and_mask}
use Rattle.definitions.specs.Ieee754.{narrowed, narrows}
use Rattle.definitions.specs.WrittenValue.{fitting}
use Rattle.doubles.specs.Meaning.{OnlyOne}
use Rattle.doubles.proofs.NarrowedPatterns.{nan_way, single_way, wider_way}
use Rattle.doubles.proofs.narrowing.narrow.Goals as goal

pub returns-then-bits-eq-NAN : goal.returns-then-bits-eq-NAN
returns-then-bits-eq-NAN c = nan_way ∙ ap (λ (b : ℕ). fitting (narrows b) (narrowed b)) (sym c.if-bits-eq-NAN.true)

pub returns-then-widen-bits : goal.returns-then-widen-bits
returns-then-widen-bits c =
    single_way c.args.bits c.with_sign-single.result c.if-bits-eq-NAN.false c.with_sign-single.ensures.1
    (sym c.widen.ensures ∙ c.if-widen-bits.true)

pub returns : goal.returns
returns c =
    let b = c.args.bits in
    let r = c.narrow_magnitude-magnitude.result in
    wider_way b c.with_sign-single.result c.if-bits-eq-NAN.false r
    (subst (λ (m : ℕ). OnlyOne m r) (and_mask b 63) c.narrow_magnitude-magnitude.ensures.1)
    c.with_sign-single.ensures.0
    (λ e. c.if-widen-bits.false (c.widen.ensures ∙ e))
