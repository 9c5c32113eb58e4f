-- The sum of fewer than 2^63 integers of at most 64 bits has at most 128 bits, with its sign; and no record gives more bits.
use Rattle.std.specs.Prelude.{if◌then◌else◌}
use mathlib.Core.Path.{◌≡◌, refl, sym, subst}
use mathlib.Core.Bool.{Bool, true, false, not, cond, ◌&&◌, ◌||◌}
use mathlib.Core.List.{List, [], ◌∷◌}
use Prim.Native.Nat.{ℕ, suc, ◌+◌, ◌-◌, ◌*◌, ◌^◌, ◌≤◌, ◌<◌, zero-le}
use native.Mathlib.Nat.{lt_of_le_of_lt, lt_of_lt_of_le, mul-lt-mul_of_pos_right, mod-lt}
use native.Mathlib.Omega.{arith}
use lib.Dec.{ltb, eqb}
use borrow.Author.Tests.{ltb-true, ltb-false, eqb-false}
use lib.IntN.{ℤ, pos, negsuc, nat_abs, sub_ℕ, ◌+ℤ◌}
use lib.ListN.{length}
use lib.Pow.{pow_pos, pow_mono}
use lib.Signed.{mag}
use Rattle.definitions.specs.Reply.{Reply, answer, refusal, and_then, told}
use Rattle.definitions.specs.Bytes.{twos_complement}
use Rattle.definitions.specs.DataType.{DataType, unsigned_integer, signed_integer, float, complex, string, byte_array, mime_sample, mime_stream, can_open_date, can_open_time, unknown, kind_of}
use Rattle.definitions.specs.Channel.{Channel, Group, Value, ValidValue, unsigned, signed, double, text, bytes, sample, stream, unknown_value, number_in, is_number, is_integer, is_floating, start_of, span_of, decoded, value_by, value_of, bounded_valid_of, bounded_value_of}
use Rattle.definitions.specs.Report.{readings, integer_in, summand, sum_of, report_of}
use Rattle.replies.proofs.ToldToC.{Reversible}
use Rattle.theorems.specs.Reports.{All, Small, SmallRead}
use Rattle.theorems.proofs.Calls.ToldToC.{word_reversible}
use Rattle.theorems.proofs.Reports.RecordsRead.{readings_length}

-- ---- how far a sum lies from 0

away : (a b : ℕ) → nat_abs (sub_ℕ a b) ≤ a + b
away a b = go (ltb a b) refl
  where
    go : (t : Bool) → ltb a b ≡ t → nat_abs (cond t (negsuc (b - suc a)) (pos (a - b))) ≤ a + b
    go true e = omega (arith, ltb-true)
    go false e = omega arith

sum_within : (x y : ℤ) → nat_abs (x +ℤ y) ≤ nat_abs x + nat_abs y
sum_within (pos a) (pos b) = omega arith
sum_within (pos a) (negsuc b) = away a (suc b)
sum_within (negsuc a) (pos b) = omega (arith, away b (suc a))
sum_within (negsuc a) (negsuc b) = omega arith

-- ---- one value

signed_within : (z : ℤ) → mag z < 2 ^ 63 → nat_abs z ≤ 2 ^ 64
signed_within (pos n) h = omega arith
signed_within (negsuc n) h = omega arith

value_within : (v : Value) → Small v → nat_abs (integer_in v) ≤ 2 ^ 64
value_within (unsigned n) h = omega arith
value_within (signed z) h = signed_within z h
value_within (double x pattern) h = zero-le
value_within (text at n) h = zero-le
value_within (bytes at n) h = zero-le
value_within (sample at n) h = zero-le
value_within (stream at n) h = zero-le
value_within unknown_value h = zero-le

summand_within : (x : Reply ValidValue) → SmallRead x → nat_abs (summand x) ≤ 2 ^ 64
summand_within (answer v) h = go v.valid
  where
    go : (b : Bool) → nat_abs (if b then integer_in v.value else pos 0) ≤ 2 ^ 64
    go true = value_within v.value h
    go false = zero-le
summand_within (refusal n t) h = zero-le

-- ---- all of them

pub sum_bounded : (xs : List (Reply ValidValue)) → All SmallRead xs → nat_abs (sum_of xs) ≤ length xs * 2 ^ 64
unfolding sum_of
sum_bounded [] a = zero-le
sum_bounded (x ∷ xs) a =
    omega (arith, sum_within (summand x) (sum_of xs), summand_within x a.0, sum_bounded xs a.1)

below_magnitude : (z : ℤ) (n : ℕ) → nat_abs z < n → mag z < n
below_magnitude (pos k) n h = h
below_magnitude (negsuc k) n h = omega arith

-- from -2^127 to 2^127 - 1
pub sum_fits : (xs : List (Reply ValidValue)) → All SmallRead xs → length xs < 2 ^ 63 → mag (report_of xs).sum < 2 ^ 127
unfolding report_of
sum_fits xs a h = below_magnitude (sum_of xs) (2 ^ 127) (lt_of_le_of_lt (sum_bounded xs a) (mul-lt-mul_of_pos_right h (omega arith)))

-- ---- what a record gives is small

word_small : (z : ℤ) → Reversible (signed z) → mag z < 2 ^ 63
word_small (pos n) h = h
word_small (negsuc n) h = h

-- what is answered is small
abbrev SmallValue : Reply Value → Type 0
SmallValue (answer v) = Small v
SmallValue (refusal n t) = Unit {0}

past : (b : Bool) (number t : ℕ) (r : Reply Value) → (b ≡ false → SmallValue r) → SmallValue (if b then refusal number t else r)
past true number t r h = tt
past false number t r h = h refl

module _ (s : List ℕ) (at n : ℕ) (c : Channel) where
  decoded_small : (type : DataType) → is_number (kind_of type) && eqb c.bit_count 0 ≡ false → is_integer (kind_of type) && ltb 64 c.bit_count ≡ false
      → Small (decoded type s at n c)
  unfolding decoded
  decoded_small (unsigned_integer o) some few =
      lt_of_lt_of_le (mod-lt _ (pow_pos c.bit_count)) (pow_mono {i = c.bit_count} {j = 64} (ltb-false _ _ few))
  decoded_small (signed_integer o) some few =
      let lo : c.bit_count ≡ 0 → ⊥ = eqb-false _ _ some in
      word_small (twos_complement c.bit_count (number_in o s at c))
      (word_reversible c.bit_count (number_in o s at c) (omega arith) (ltb-false _ _ few) (mod-lt _ (pow_pos c.bit_count)))
  decoded_small (float o) some few = tt
  decoded_small (string e) some few = tt
  decoded_small byte_array some few = tt
  decoded_small mime_sample some few = tt
  decoded_small mime_stream some few = tt
  decoded_small can_open_date some few = tt
  decoded_small can_open_time some few = tt
  decoded_small (complex o) some few = tt
  decoded_small (unknown code) some few = tt

  by_tests : SmallValue (value_by (kind_of c.data_type) at n s c)
  unfolding value_by
  by_tests =
      let k = kind_of c.data_type in
      past (is_number k && eqb c.bit_count 0) 18 0 _
      (λ some. past (is_number k && ltb 7 c.bit_offset) 19 0 _
      (λ e. past (is_integer k && ltb 64 c.bit_count) 20 0 _
      (λ few. past (ltb (length s) (at + n)) 21 (told (at + n)) _
      (λ e. past (is_floating k && not (eqb c.bit_count 32 || eqb c.bit_count 64)) 22 0 (answer (decoded c.data_type s at n c))
      (λ e. decoded_small c.data_type some few)))))

value_small : (s : List ℕ) (id_size : ℕ) (c : Channel) → SmallValue (value_of s id_size c)
unfolding value_of
value_small s id_size c = by_tests s (start_of id_size c) (span_of s c) c

read_small : (s : List ℕ) (g : Group) (c : Channel) → SmallRead (bounded_value_of s g c)
unfolding bounded_value_of
read_small s g c = go (value_of s g.id_size c) (bounded_valid_of s g c) (value_small s g.id_size c)
  where
    go : (r : Reply Value) (q : Reply Bool) → SmallValue r → SmallRead (and_then r (λ v. and_then q (λ b. answer (record { value = v; valid = b }))))
    go (answer v) (answer b) h = h
    go (answer v) (refusal n t) h = tt
    go (refusal n t) q h = tt

all_small : (g : Group) (c : Channel) (rs : List (List ℕ)) → All SmallRead (readings g c rs)
unfolding readings
all_small g c [] = tt
all_small g c (r ∷ rs) = (read_small r g c, all_small g c rs)

-- so the sum of fewer than 2^63 records of whatever channel fits
pub report_sum_fits : (g : Group) (c : Channel) (rs : List (List ℕ)) → length rs < 2 ^ 63 → mag (report_of (readings g c rs)).sum < 2 ^ 127
report_sum_fits g c rs h =
    sum_fits (readings g c rs) (all_small g c rs) (subst (λ (n : ℕ). n < 2 ^ 63) (sym (readings_length g c rs)) h)
