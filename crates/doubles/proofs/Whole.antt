-- What rounding keeps of a whole number, and the pattern of the double that it makes. A number n is n * unit of the smallest
-- double above 0; of these N units rounding drops `dropped N` digits and keeps the number `kept N`.
use mathlib.Core.Path.{◌≡◌, refl, sym, ap, ◌∙◌, subst}
use mathlib.Core.Bool.{Bool, true, false}
use Prim.Native.Nat.{ℕ, suc, ◌+◌, ◌-◌, ◌*◌, ◌/◌, ◌%◌, ◌^◌, ◌≤◌, ◌<◌, compare}
use native.Mathlib.Nat.{le_trans, le_of_eq, lt_of_le_of_lt, mul-le-mul_right, one-mul, div-one, le-div_iff_mul-le}
use native.Mathlib.Omega.{arith}
use lib.IntN.{pos, negsuc}
use lib.Pow.{pow-add, pow_pos, pow-lt, shl_lt}
use lib.Ieee.{Float, binary64, size, units, round, of_int, of_bits, to_bits}
use lib.Ieee.Digits.{size-lt, size-le, size_reaches}
use lib.Ieee.Fits.{nearest-le, round_is, round-fits, kept-lt}
use lib.Ieee.Bits.{of_bits-to_bits}
use lib.Ieee.Exact.{HasValue, units_val}
use lib.Ieee.Nearest.{closest, nearest-ge}
use Rattle.definitions.specs.Ieee754.{unit, double_of, double_of_sign}
use Rattle.doubles.proofs.Pattern.{sign_bit, exponent_lt, written}

abbrev pub dropped : ℕ → ℕ
dropped N = size N - 53

abbrev pub kept : ℕ → ℕ
kept N = closest N (2 ^ dropped N)

-- ---- an integer, by its sign and its magnitude
pub of_positive : (n : ℕ) → double_of (pos n) ≡ double_of_sign false n
unfolding of_int
of_positive n = refl

pub of_negative : (n : ℕ) → double_of (negsuc n) ≡ double_of_sign true (suc n)
unfolding of_int
of_negative n = refl

pub of_zero : double_of (pos 0) ≡ 0
unfolding to_bits of_int
of_zero = refl

-- the pattern is read as the value that was rounded
pub read_back : (s : Bool) (n : ℕ) → of_bits binary64 (double_of_sign s n) ≡ round binary64 s n 1
read_back s n = of_bits-to_bits binary64 (round binary64 s n 1) (round-fits binary64 s n 1)

-- ---- what is kept
pub kept_le : (N : ℕ) → kept N ≤ 2 ^ 53
kept_le N = le_trans (nearest-le (N / 2 ^ dropped N) (compare (N % 2 ^ dropped N * 2) (2 ^ dropped N))) (kept-lt 53 N)

-- where digits are dropped, N has 53 and those
pub reaches : (N : ℕ) → 0 < dropped N → 2 ^ (52 + dropped N) ≤ N
reaches N h = size_reaches N (52 + dropped N) (among (size N) h)
  where
    among : (z : ℕ) → 0 < z - 53 → 52 + (z - 53) < z
    among z h = omega arith

pub kept_ge : (N : ℕ) → 0 < dropped N → 2 ^ 52 ≤ kept N
kept_ge N h =
    le_trans ((le-div_iff_mul-le (pow_pos (dropped N))).1 (le_trans (le_of_eq (sym (pow-add 2 52 (dropped N)))) (reaches N h)))
    (nearest-ge (N / 2 ^ dropped N) (compare (N % 2 ^ dropped N * 2) (2 ^ dropped N)))

-- of a number above 0 at least 1022 of its digits are dropped
pub dropped_ge : (n : ℕ) → 0 < n → 1022 ≤ dropped (n * unit)
dropped_ge n h =
    let N : ℕ = n * unit in
    let least : 2 ^ 1074 ≤ N = le_trans (le_of_eq (sym (one-mul unit))) (mul-le-mul_right unit h) in
    less (size N) (exponent_lt 1074 (size N) (lt_of_le_of_lt least (size-lt N)))
  where
    less : (z : ℕ) → 1074 < z → 1022 ≤ z - 53
    less z l = omega arith

-- ---- the value
pub round_kept : (s : Bool) (n : ℕ) → round binary64 s n 1 ≡ units binary64 s (kept (n * unit)) (dropped (n * unit))
round_kept s n =
    let N = n * unit in
    round_is binary64 s n 1
    ∙ ap (λ (y : ℕ). units binary64 s (closest N (1 * 2 ^ (size y - 53))) (size y - 53)) (div-one N)
    ∙ ap (λ (y : ℕ). units binary64 s (closest N y) (dropped N)) (one-mul (2 ^ dropped N))

finite : (n : ℕ) → n < 2 ^ 64 → kept (n * unit) * 2 ^ dropped (n * unit) < 2 ^ (1074 + 1024)
finite n h =
    let N = n * unit in
    lt_of_le_of_lt (le_trans (mul-le-mul_right (2 ^ dropped N) (kept_le N)) (le_of_eq (sym (pow-add 2 53 (dropped N)))))
    (pow-lt (room (size N) (size-le N (64 + 1074) (shl_lt 64 1074 h))))
  where
    room : (z : ℕ) → z ≤ 64 + 1074 → 53 + (z - 53) < 1074 + 1024
    room z l = omega arith

pub value_kept : (s : Bool) (n : ℕ) → n < 2 ^ 64
    → HasValue (round binary64 s n 1) s (kept (n * unit) * 2 ^ dropped (n * unit)) unit
value_kept s n h =
    let N = n * unit in
    subst (λ (v : Float). HasValue v s (kept N * 2 ^ dropped N) unit) (sym (round_kept s n))
    (units_val binary64 s (kept N) (dropped N) (finite n h))

-- ---- the pattern
pub pattern_kept : (s : Bool) (n : ℕ) → 0 < n → n < 2 ^ 64
    → double_of_sign s n ≡ sign_bit s + (dropped (n * unit) * 2 ^ 52 + kept (n * unit))
pattern_kept s n p h =
    let N = n * unit in
    written (round binary64 s n 1) s (kept N) (dropped N) (kept_ge N (some (dropped N) (dropped_ge n p))) (kept_le N)
    (value_kept s n h)
  where
    some : (z : ℕ) → 1022 ≤ z → 0 < z
    some z l = omega arith
