-- Which patterns are a NaN's: with the sign taken off, those above an infinity's.
use mathlib.Core.Path.{◌≡◌, refl, sym, ap, ◌∙◌, subst}
use mathlib.Core.Bool.{Bool, true, false, not, true≢false}
use Prim.Native.Nat.{ℕ, suc, ◌*◌, ◌%◌, ◌≤◌, ◌<◌}
use lib.Dec.{T, lt→ltb}
use lib.Arith.{le→nltb}
use lib.Ieee.{Float, nan, inf, fin, Format, binary64, is_nan, hid, ones, top, round, neg, of_bits, nan_bits, div}
use lib.IntN.{ℤ, pos, negsuc}
use lib.Ieee.Bits.{is_true, nan_bits_is, nan_bits_above}
use Rattle.definitions.specs.Ieee754.{double_of, double_of_sign}
use Rattle.doubles.proofs.Whole.{of_positive, of_negative, read_back}
use Rattle.doubles.proofs.SignBit.{Plain, round_opposite}

pub is_nan_law : (x : Float) → is_nan x ≡ true → x ≡ nan
unfolding is_nan
is_nan_law nan e = refl
is_nan_law (inf s) e = absurd (true≢false (sym e))
is_nan_law (fin s m d) e = absurd (true≢false (sym e))

pub nan_above : (f : Format) (b : ℕ) → ones f * hid f < b % top f → of_bits f b ≡ nan
nan_above f b h =
    let t : T (nan_bits f b) = subst T (sym (nan_bits_above f b)) (lt→ltb (ones f * hid f) (b % top f) h) in
    is_nan_law (of_bits f b) (sym (nan_bits_is f b) ∙ is_true (nan_bits f b) t)

pub no_nan_below : (f : Format) (b : ℕ) → b % top f ≤ ones f * hid f → T (not (nan_bits f b))
no_nan_below f b h = subst (λ (x : Bool). T (not x)) (sym (nan_bits_above f b)) (le→nltb (ones f * hid f) (b % top f) h)

pub zero_by_zero : div binary64 (of_bits binary64 0) (of_bits binary64 0) ≡ nan
unfolding div of_bits
zero_by_zero = refl

-- ---- no integer gives a NaN
plain_number : (v : Float) → Plain v → (is_nan v ≡ false) × (is_nan (neg v) ≡ false)
unfolding is_nan neg
plain_number nan p = absurd p
plain_number (inf s) p = (refl, refl)
plain_number (fin s m e) p = (refl, refl)

pub never_nan : (s : Bool) (n : ℕ) → is_nan (of_bits binary64 (double_of_sign s n)) ≡ false
never_nan false n = ap is_nan (read_back false n) ∙ (plain_number (round binary64 false n 1) (round_opposite n).0).0
never_nan true n =
    ap is_nan (read_back true n ∙ (round_opposite n).1) ∙ (plain_number (round binary64 false n 1) (round_opposite n).0).1

pub integer_never_nan : (z : ℤ) → is_nan (of_bits binary64 (double_of z)) ≡ false
integer_never_nan (pos n) = ap (λ (b : ℕ). is_nan (of_bits binary64 b)) (of_positive n) ∙ never_nan false n
integer_never_nan (negsuc n) = ap (λ (b : ℕ). is_nan (of_bits binary64 b)) (of_negative n) ∙ never_nan true (suc n)
