-- The double of an integer field is nearest to the integer.
use Rattle.std.specs.Prelude.{if◌then◌else◌}
use mathlib.Core.Path.{◌≡◌, refl, sym, ap, ◌∙◌, subst}
use mathlib.Core.Bool.{Bool, true, false, not, ◌&&◌, ◌||◌}
use mathlib.Core.List.{List}
use Prim.Native.Nat.{ℕ, suc, ◌+◌, ◌-◌, ◌^◌, ◌≤◌, ◌<◌}
use native.Mathlib.Nat.{lt_of_lt_of_le}
use native.Mathlib.Omega.{arith}
use lib.IntN.{ℤ, pos, negsuc, nat_abs}
use lib.ListN.{length}
use lib.Dec.{ltb, eqb}
use lib.Pow.{pow_pos, pow_mono}
use borrow.Author.Tests.{ltb-false}
use Rattle.definitions.specs.Reply.{answer}
use Rattle.definitions.specs.Bytes.{number_of, span, bytes_for}
use Rattle.definitions.specs.Ieee754.{double_of, Nearest}
use Rattle.definitions.specs.DataType.{DataType, Kind, kind_of}
use Rattle.definitions.specs.Channel.{Channel, Value, unsigned, signed, double, text, bytes, sample, stream, unknown_value, variable_length, start_of, span_of, number_in, decoded, is_integer, is_floating, is_number, value_by, value_of, double_in, record_double}
use Rattle.definitions.proofs.Replies.{not_answered}
use Rattle.bit_fields.proofs.Bits.{field_below}
use Rattle.doubles.proofs.Whole.{of_positive, of_negative}
use Rattle.doubles.proofs.Nearest.{nearest}
use Rattle.fields.proofs.Fields.{in_turn}
use Rattle.fields.proofs.Types.{integer_types}
use Rattle.decoder.proofs.Doubles.{double_fixed}

-- the integer of a value, and whether it is below 0
abbrev pub integer_in : Value → ℤ
integer_in (unsigned n) = pos n
integer_in (signed z) = z
integer_in (double x pattern) = pos 0
integer_in (text at n) = pos 0
integer_in (bytes at n) = pos 0
integer_in (sample at n) = pos 0
integer_in (stream at n) = pos 0
integer_in unknown_value = pos 0

abbrev pub is_negative : ℤ → Bool
is_negative (pos n) = false
is_negative (negsuc n) = true

nearest_to : (z : ℤ) → nat_abs z < 2 ^ 64 → Nearest (is_negative z) (nat_abs z) (double_of z)
nearest_to (pos n) h = subst (Nearest false n) (sym (of_positive n)) (nearest false n h)
nearest_to (negsuc n) h = subst (Nearest true (suc n)) (sym (of_negative n)) (nearest true (suc n) h)

-- two's complement of a width up to 64 bits stays below 2^64
in_a_word : (count x : ℕ) (t : Bool) → ltb x (2 ^ (count - 1)) ≡ t → count ≤ 64 → x < 2 ^ count
    → nat_abs (if t then pos x else negsuc (2 ^ count - suc x)) < 2 ^ 64
in_a_word count x true e l h = lt_of_lt_of_le h (pow_mono l)
in_a_word count x false e l h =
    let a : 2 ^ (count - 1) ≤ x = ltb-false x (2 ^ (count - 1)) e in
    let p : 0 < 2 ^ (count - 1) = pow_pos (count - 1) in
    let m : 2 ^ count ≤ 2 ^ 64 = pow_mono l in
    omega arith

-- an answer is what the bytes stand for, and an integer has 64 bits at most
answered : (k : Kind) (at n : ℕ) (s : List ℕ) (c : Channel) (v : Value) → value_by k at n s c ≡ answer v
    → (decoded c.data_type s at n c ≡ v) × (is_integer k && ltb 64 c.bit_count ≡ false)
unfolding value_by
answered k at n s c v e =
    go (is_number k && eqb c.bit_count 0) (is_number k && ltb 7 c.bit_offset) (is_integer k && ltb 64 c.bit_count) refl
    (ltb (length s) (at + n)) (is_floating k && not (eqb c.bit_count 32 || eqb c.bit_count 64)) e
  where
    go : (a b d : Bool) → is_integer k && ltb 64 c.bit_count ≡ d → (f g : Bool)
        → in_turn a b d f g (at + n) (decoded c.data_type s at n c) ≡ answer v
        → (decoded c.data_type s at n c ≡ v) × (is_integer k && ltb 64 c.bit_count ≡ false)
    go true b d i f g h = not_answered v _ _ h
    go false true d i f g h = not_answered v _ _ h
    go false false true i f g h = not_answered v _ _ h
    go false false false i true g h = not_answered v _ _ h
    go false false false i false true h = not_answered v _ _ h
    go false false false i false false h = (cc, i)

-- what an integer's bytes stand for, as an integer of a word and as a double
module _ (s : List ℕ) (at n : ℕ) (c : Channel) where
  below : (type : DataType) → is_integer (kind_of type) ≡ true → is_integer (kind_of type) && ltb 64 c.bit_count ≡ false
      → nat_abs (integer_in (decoded type s at n c)) < 2 ^ 64
  unfolding decoded
  below =
      integer_types (λ d. is_integer (kind_of d) && ltb 64 c.bit_count ≡ false → nat_abs (integer_in (decoded d s at n c)) < 2 ^ 64)
      (λ o l. lt_of_lt_of_le (field_below (number_of o (span s at (bytes_for c.bit_offset c.bit_count))) c.bit_offset c.bit_count) (pow_mono (ltb-false 64 c.bit_count l)))
      (λ o l.
      in_a_word c.bit_count (number_in o s at c) (ltb (number_in o s at c) (2 ^ (c.bit_count - 1))) refl (ltb-false 64 c.bit_count l)
      (field_below (number_of o (span s at (bytes_for c.bit_offset c.bit_count))) c.bit_offset c.bit_count))

  as_double : (type : DataType) → is_integer (kind_of type) ≡ true → double_of (integer_in (decoded type s at n c)) ≡ double_in (answer (decoded type s at n c))
  unfolding decoded
  as_double = integer_types (λ d. double_of (integer_in (decoded d s at n c)) ≡ double_in (answer (decoded d s at n c))) (λ o. refl) (λ o. refl)

-- a fixed integer field with a value: its double is that of the integer, which a word holds
module _ (s : List ℕ) (id_size : ℕ) (c : Channel) (v : Value) (fixed : variable_length c ≡ false) (number : is_integer (kind_of c.data_type) ≡ true)
    (e : value_of s id_size c ≡ answer v)
  where
    pub integer_double : double_of (integer_in v) ≡ record_double s id_size c
    unfolding value_of
    integer_double =
        let told = answered (kind_of c.data_type) (start_of id_size c) (span_of s c) s c v e in
        ap (λ (x : Value). double_of (integer_in x)) (sym told.0) ∙ as_double s (start_of id_size c) (span_of s c) c c.data_type number
        ∙ ap (λ (x : Value). double_in (answer x)) told.0 ∙ ap double_in (sym e) ∙ double_fixed s id_size c fixed

    integer_small : nat_abs (integer_in v) < 2 ^ 64
    unfolding value_of
    integer_small =
        let told = answered (kind_of c.data_type) (start_of id_size c) (span_of s c) s c v e in
        subst (λ (x : Value). nat_abs (integer_in x) < 2 ^ 64) told.0 (below s (start_of id_size c) (span_of s c) c c.data_type number told.1)

    pub nearest_double : Nearest (is_negative (integer_in v)) (nat_abs (integer_in v)) (record_double s id_size c)
    nearest_double = subst (Nearest (is_negative (integer_in v)) (nat_abs (integer_in v))) integer_double (nearest_to (integer_in v) integer_small)
