-- A negative value is the opposite of the positive one, and its pattern has the sign's bit, 2^63, more.
use mathlib.Core.Path.{◌≡◌, refl, sym, ap, ◌∙◌, subst}
use mathlib.Core.Bool.{Bool, true, false, not, ◌&&◌, cond, true≢false}
use Prim.Native.Nat.{ℕ, zero, suc, ◌+◌, ◌*◌, ◌^◌, ◌<◌}
use native.Mathlib.Nat.{zero-add}
use native.Mathlib.Omega.{arith}
use lib.Dec.{T, eqb, ltb}
use lib.IntN.{pos}
use lib.Ieee.{Float, nan, inf, fin, binary32, binary64, odd, units, round, neg, of_fields, to_bits}
use lib.Ieee.Fits.{round-fits}
use lib.Ieee.Bits.{to_bits-lt}
use Rattle.definitions.specs.Ieee754.{unit, double_of, double_of_sign}
use Rattle.doubles.proofs.Pattern.{sign_bit}
use Rattle.doubles.proofs.Whole.{kept, dropped, of_positive, round_kept}

-- a number or an infinity whose sign is clear
abbrev pub Plain : Float → Type 0
Plain nan = ⊥
Plain (inf s) = s ≡ false
Plain (fin s m e) = s ≡ false

abbrev pub Opposite : Float → Float → Type 0
Opposite v w = Plain v × (w ≡ neg v)

-- ---- what is made with either sign
odd_opposite : (d q k l : ℕ) → Opposite (odd d false q k l) (odd d true q k l)
unfolding odd neg
odd_opposite d zero k l = (refl, refl)
odd_opposite d (suc q) k l = (refl, refl)

inf_opposite : Opposite (inf false) (inf true)
unfolding neg
inf_opposite = (refl, refl)

units_opposite : (q k : ℕ) → Opposite (units binary64 false q k) (units binary64 true q k)
unfolding units
units_opposite q k = go (ltb (q * 2 ^ k) (2 ^ (1074 + 1024)))
  where
    go : (b : Bool) → Opposite (cond b (odd 54 false q k 1074) (inf false)) (cond b (odd 54 true q k 1074) (inf true))
    go true = odd_opposite 54 q k 1074
    go false = inf_opposite

pub round_opposite : (n : ℕ) → Opposite (round binary64 false n 1) (round binary64 true n 1)
round_opposite n =
    let q : ℕ = kept (n * unit) in
    let k : ℕ = dropped (n * unit) in
    subst (λ (w : Float). Opposite (round binary64 false n 1) w) (sym (round_kept true n))
    (subst (λ (v : Float). Opposite v (units binary64 true q k)) (sym (round_kept false n)) (units_opposite q k))

-- the fields of a 32-bit pattern that is no NaN's
pub fields_opposite : (x t : ℕ) → T (not (eqb x 255 && not (eqb t 0)))
    → Opposite (of_fields binary32 false x t) (of_fields binary32 true x t)
unfolding of_fields
fields_opposite zero t h = odd_opposite 24 t 0 149
fields_opposite (suc x) t h = go (eqb (suc x) 255) (eqb t 0) h
  where
    of : Bool → Bool → Bool → Float
    of s y z = cond y (cond z (inf s) nan) (odd 24 s (2 ^ 23 + t) x 149)

    go : (y z : Bool) → T (not (y && not z)) → Opposite (of false y z) (of true y z)
    go true true h = inf_opposite
    go true false h = absurd h
    go false z h = odd_opposite 24 (2 ^ 23 + t) x 149

-- ---- the patterns
neg_bits : (v : Float) → Plain v → to_bits binary64 (neg v) ≡ 2 ^ 63 + to_bits binary64 v
unfolding to_bits neg
neg_bits nan p = absurd p
neg_bits (inf true) p = absurd (true≢false p)
neg_bits (inf false) p = refl
neg_bits (fin true m e) p = absurd (true≢false p)
neg_bits (fin false m e) p = apart (2 ^ 63) _ _
  where
    apart : (a b c : ℕ) → a + b + c ≡ a + (0 + b + c)
    apart a b c = omega arith

pub sign_bit_law : (v w : Float) → Opposite v w → (s : Bool) → to_bits binary64 (cond s w v) ≡ sign_bit s + to_bits binary64 v
sign_bit_law v w o true = ap (to_bits binary64) o.1 ∙ neg_bits v o.0
sign_bit_law v w o false = sym (zero-add (to_bits binary64 v))

pub integer_sign_bit : (s : Bool) (n : ℕ) → double_of_sign s n ≡ sign_bit s + double_of_sign false n
integer_sign_bit true n = sign_bit_law _ _ (round_opposite n) true
integer_sign_bit false n = sign_bit_law _ _ (round_opposite n) false

-- as a program makes it
pub integer_with_sign : (s : Bool) (n p r : ℕ) → p ≡ double_of (pos n) → r ≡ sign_bit s + p → r ≡ double_of_sign s n
integer_with_sign s n p r e h = h ∙ ap (λ (x : ℕ). sign_bit s + x) (e ∙ of_positive n) ∙ sym (integer_sign_bit s n)

-- a pattern that has 64 digits with the sign's bit has 63 without
pub without_sign_bit : (x : ℕ) → 2 ^ 63 + x < 2 ^ 64 → x < 2 ^ 63
without_sign_bit x h = omega arith

pub sign_clear : (n : ℕ) → double_of (pos n) < 2 ^ 63
sign_clear n =
    let negative : double_of_sign true n < 2 ^ 64 = to_bits-lt binary64 (round binary64 true n 1) (round-fits binary64 true n 1) in
    subst (λ (x : ℕ). x < 2 ^ 63) (sym (of_positive n))
    (without_sign_bit (double_of_sign false n) (subst (λ (x : ℕ). x < 2 ^ 64) (integer_sign_bit true n) negative))
