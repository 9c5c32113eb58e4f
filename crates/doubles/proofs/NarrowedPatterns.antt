-- A double's pattern narrowed to that of a 32-bit float. A double narrows just where a 32-bit pattern widens to it:
-- `narrowed_back`, `widened_narrows`. Of the 32-bit patterns all come back but the NaNs' other than 0x7FC00000: `comes_back`,
-- `come_back_only`.
use mathlib.Core.Path.{◌≡◌, refl, sym, ap, ◌∙◌, subst}
use mathlib.Core.Logic.{◌⊎◌, inl, inr}
use mathlib.Core.Bool.{Bool, true, false, not, cond}
use Prim.Native.Nat.{ℕ, ◌+◌, ◌%◌, ◌^◌, ◌≤◌, ◌<◌}
use native.Mathlib.Omega.{arith}
use lib.Dec.{T, leb}
use lib.Ieee.{Float, nan, binary32, binary64, is_nan, fits, of_bits, to_bits}
use lib.Ieee.Bits.{of_bits-to_bits, to_bits-of_bits, of_bits-fits, to_bits-lt, nan_bits_is}
use borrow.Author.Tests.{leb-true, leb-false, le-leb, lt-leb, eqb-true, eq-eqb, ne_eqb}
use Rattle.std.specs.Prelude.{Option, Some, None}
use Rattle.definitions.specs.Reply.{Reply, answer, refusal}
use Rattle.definitions.specs.Ieee754.{nan_pattern, widened, narrowed, narrows}
use Rattle.definitions.specs.WrittenValue.{fitting}
use Rattle.doubles.specs.Meaning.{narrow_meant, OnlyOne}
use Rattle.doubles.proofs.Pattern.{sign_bit}
use Rattle.definitions.proofs.Replies.{le_or_lt, one_by}
use Rattle.doubles.proofs.Nan.{nan_above, no_nan_below}
use Rattle.doubles.proofs.Widened.{widening_exact, nan_widened, sign_widened, widened_clear}

-- ---- there and back

-- a double that narrows is what its 32-bit pattern widens to
pub narrowed_back : (b : ℕ) → narrows b ≡ true → widened (narrowed b) ≡ b
narrowed_back b h = eqb-true (widened (narrowed b)) b h

pub narrowed_lt : (b : ℕ) → narrows b ≡ true → narrowed b < 2 ^ 32
narrowed_lt b h =
    let same : of_bits binary32 (narrowed b) ≡ of_bits binary64 b =
    sym (widening_exact (narrowed b)) ∙ ap (of_bits binary64) (narrowed_back b h) in
    to_bits-lt binary32 (of_bits binary64 b) (subst (λ (v : Float). T (fits binary32 v)) same (of_bits-fits binary32 (narrowed b)))

-- the pattern that is made of the value of x
narrowed_widened : (x : ℕ) → narrowed (widened x) ≡ to_bits binary32 (of_bits binary32 x)
narrowed_widened x = ap (to_bits binary32) (widening_exact x)

-- what was widened narrows, a NaN too
pub widened_narrows : (x : ℕ) → narrows (widened x) ≡ true
widened_narrows x =
    eq-eqb (widened (narrowed (widened x))) (widened x)
    (ap widened (narrowed_widened x) ∙ ap (to_bits binary64) (of_bits-to_bits binary32 (of_bits binary32 x) (of_bits-fits binary32 x)))

-- ---- which patterns come back

-- a 32-bit pattern that is no NaN's, or that of the one NaN
abbrev pub ComesBack : ℕ → Type 0
ComesBack x = (x % 2 ^ 31 ≤ 0x7f80_0000) ⊎ (x ≡ 0x7fc0_0000)

nan_narrowed : to_bits binary32 nan ≡ 0x7fc0_0000
unfolding to_bits
nan_narrowed = refl

one_nan : of_bits binary32 0x7fc0_0000 ≡ nan
unfolding of_bits
one_nan = refl

pub comes_back : (x : ℕ) → x < 2 ^ 32 → ComesBack x → narrowed (widened x) ≡ x
comes_back x l (inl h) =
    narrowed_widened x
    ∙ to_bits-of_bits binary32 x l (subst (λ (t : Bool). T (not t)) (nan_bits_is binary32 x) (no_nan_below binary32 x h))
comes_back x l (inr e) = narrowed_widened x ∙ ap (to_bits binary32) (ap (of_bits binary32) e ∙ one_nan) ∙ nan_narrowed ∙ sym e

pub come_back_only : (x : ℕ) → narrowed (widened x) ≡ x → ComesBack x
come_back_only x e = elim (le_or_lt (x % 2 ^ 31) 0x7f80_0000) [
  | inl l ↦ inl l
  | inr l ↦ inr (sym e ∙ narrowed_widened x ∙ ap (to_bits binary32) (nan_above binary32 x l) ∙ nan_narrowed)
]

-- ---- as a program makes it: b is no NaN, and c is tried

abbrev narrow_again : Reply ℕ → Option ℕ
narrow_again (answer x) = Some x
narrow_again (refusal n t) = None

again : (r : Option ℕ) → narrow_again (narrow_meant r) ≡ r
again (Some x) = refl
again None = refl

-- the meaning is one-to-one
pub narrow_one : (r q : Option ℕ) → narrow_meant r ≡ narrow_meant q → r ≡ q
narrow_one = one_by narrow_meant narrow_again again

pub nan_way : answer 0x7fc0_0000 ≡ fitting (narrows nan_pattern) (narrowed nan_pattern)
unfolding to_bits of_bits
nan_way = refl

is_nan_nan : is_nan nan ≡ true
unfolding is_nan
is_nan_nan = refl

-- only a NaN's pattern stands above the infinity's
no_nan_widened : (x : ℕ) → (widened x ≡ nan_pattern → ⊥) → x % 2 ^ 31 ≤ 0x7f80_0000
no_nan_widened x number = elim (le_or_lt (x % 2 ^ 31) 0x7f80_0000) [
  | inl l ↦ l
  | inr l ↦ absurd (number (nan_widened x (ap is_nan (nan_above binary32 x l) ∙ is_nan_nan)))
]

module _ (b c : ℕ) (number : b ≡ nan_pattern → ⊥) where
  pub single_way : c < 2 ^ 32 → widened c ≡ b → answer c ≡ fitting (narrows b) (narrowed b)
  single_way l e =
      let back : narrowed b ≡ c =
      ap narrowed (sym e) ∙ comes_back c l (inl (no_nan_widened c (λ z. number (sym e ∙ z)))) in
      let does : narrows b ≡ true = ap narrows (sym e) ∙ widened_narrows c in
      sym (ap (λ (t : Bool). fitting t (narrowed b)) does ∙ ap answer back)

  -- r is the only one that can widen to b without its sign, and c is r with that
  module _ (r : ℕ) (only : OnlyOne (b % 2 ^ 63) r) (signed : c ≡ cond (leb (2 ^ 63) b) (2 ^ 31) 0 + r) where
    same_sign : (x w : ℕ) (s : Bool) → x % 2 ^ 31 ≡ r → leb (2 ^ 31) x ≡ s → x < 2 ^ 32 → w < 2 ^ 63 → b ≡ sign_bit s + w → x ≡ c
    same_sign x w true low set l clear e =
        let high : 2 ^ 31 ≤ x = leb-true (2 ^ 31) x set in
        let too : leb (2 ^ 63) b ≡ true = le-leb (2 ^ 63) b (omega arith) in
        let is : c ≡ 2 ^ 31 + r = signed ∙ ap (λ (t : Bool). cond t (2 ^ 31) 0 + r) too in
        omega arith
    same_sign x w false low set l clear e =
        let small : x < 2 ^ 31 = leb-false (2 ^ 31) x set in
        let too : leb (2 ^ 63) b ≡ false = lt-leb (2 ^ 63) b (omega arith) in
        let is : c ≡ 0 + r = signed ∙ ap (λ (t : Bool). cond t (2 ^ 31) 0 + r) too in
        omega arith

    only_tried : (x : ℕ) → x < 2 ^ 32 → widened x ≡ b → x ≡ c
    only_tried x l e =
        let low : x % 2 ^ 31 ≤ 0x7f80_0000 = no_nan_widened x (λ z. number (sym e ∙ z)) in
        let w : ℕ = widened (x % 2 ^ 31) in
        let clear : w < 2 ^ 63 = widened_clear (x % 2 ^ 31) low in
        let parts : b ≡ sign_bit (leb (2 ^ 31) x) + w = sym e ∙ sign_widened x low in
        same_sign x w (leb (2 ^ 31) x) (only (x % 2 ^ 31) low (without (leb (2 ^ 31) x) w clear parts)) refl l clear parts
      where
        without : (s : Bool) (w : ℕ) → w < 2 ^ 63 → b ≡ sign_bit s + w → w ≡ b % 2 ^ 63
        without true w clear e = omega arith
        without false w clear e = omega arith

    pub wider_way : (widened c ≡ b → ⊥) → refusal 24 0 ≡ fitting (narrows b) (narrowed b)
    wider_way other = sym (ap (λ (t : Bool). fitting t (narrowed b)) (ne_eqb (widened (narrowed b)) b no))
      where
        no : widened (narrowed b) ≡ b → ⊥
        no e =
            let does : narrows b ≡ true = eq-eqb (widened (narrowed b)) b e in
            other (ap widened (sym (only_tried (narrowed b) (narrowed_lt b does) e)) ∙ e)
