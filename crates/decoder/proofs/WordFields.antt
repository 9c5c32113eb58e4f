-- Fields that a word holds.
use Rattle.std.specs.Prelude.{if◌then◌else◌, Ok}
use mathlib.Core.Path.{◌≡◌, refl, sym, ap, ◌∙◌}
use mathlib.Core.Bool.{Bool, true, false, not, ◌&&◌, ◌||◌}
use mathlib.Core.List.{List}
use Prim.Native.Nat.{ℕ, ◌+◌, ◌*◌, ◌/◌, ◌%◌, ◌^◌, ◌≤◌, ◌<◌}
use native.Mathlib.Omega.{arith}
use lib.ListN.{length}
use lib.Dec.{ltb, eqb}
use borrow.Author.Tests.{le-ltb, eq-eqb, ne_eqb}
use Rattle.definitions.specs.Reply.{answer, refusal}
use Rattle.definitions.specs.Bytes.{Order, le_of, le, span, bits, bytes_for, number_of, field_at}
use Rattle.definitions.specs.Ieee754.{nan_pattern}
use Rattle.definitions.specs.DataType.{Kind}
use Rattle.definitions.specs.Channel.{Channel, Value, variable_length, bit_span, span_in, float_bits, is_number, is_integer, is_floating, value_by, value_of, double_in, record_double}
use Rattle.fields.specs.Form.{order_meant, form_of, number_kind, number_value}
use Rattle.fields.specs.Known.{value_at, FieldTold, Fitting}
use Rattle.fields.specs.declared.form.Number as numbers
use Rattle.fields.specs.declared.form.Number.TheVariants.{Float}
use Rattle.fields.specs.declared.form.Form.{Form}
use Rattle.fields.specs.declared.form.Form.TheVariants.{Number, Other}
use Rattle.decoder.specs.Meaning.{number_double}
use Rattle.decoder.specs.Known.{Held, HeldOf, Near, Sized, InWord}
use Rattle.fields.proofs.Forms.{number_kinds, number_span, is_number_law}
use Rattle.fields.proofs.Fields.{no_bits, no_float_width, found}
use Rattle.fields.proofs.Values.{looked_for, valued}
use Rattle.decoder.proofs.Doubles.{double_found, double_fixed, double_other, double_number}
use Rattle.bit_fields.proofs.Bits.{field_below}
use Rattle.words.proofs.Numbers.{Bytes}
use Rattle.words.proofs.Loads.{in_word}

-- ---- the test

-- a word that is the number of k bytes at p holds the field that begins at their bit `from` and ends among them
pub held_by : (s : List ℕ) (at offset count p k from : ℕ) {word : ℕ} → word ≡ le_of (span s p k) → Bytes s → k ≤ 8 → p + k ≤ length s
    → 8 * p + from ≡ 8 * at + offset → offset < 8 → 1 ≤ count → from + count ≤ 8 * k → Held s at offset count word from
held_by s at offset count p k from ew bs few room same low some ends =
    let n : ℕ = bytes_for offset count in
    let place : p + from / 8 ≡ at = omega arith in
    record {
      bytes = in_word s p k (from / 8) n few bs room ew (omega arith) ∙ ap (λ (q : ℕ). span s q n) place;
      low = omega arith;
      ends = omega arith;
      inside = omega arith;
    }

-- ---- what it gives

module _ (s : List ℕ) (id_size : ℕ) (c : Channel) {word from : ℕ} (near : Near s id_size c word from) where
  abbrev at : ℕ
  at = id_size + c.byte_offset

  module _ (number : numbers.Number) where
    some : is_number (number_kind number) && eqb c.bit_count 0 ≡ false
    some =
        let z : c.bit_count ≡ 0 → ⊥ = λ e. omega (arith, near.held_of.some) in
        let e : eqb c.bit_count 0 ≡ false = ne_eqb _ _ z in
        number_kinds (λ k. is_number k && eqb c.bit_count 0 ≡ false) e e number

    low : is_number (number_kind number) && ltb 7 c.bit_offset ≡ false
    low =
        let e : ltb 7 c.bit_offset ≡ false = le-ltb 7 c.bit_offset (omega (arith, near.held_of.low)) in
        number_kinds (λ k. is_number k && ltb 7 c.bit_offset ≡ false) e e number

    few : is_integer (number_kind number) && ltb 64 c.bit_count ≡ false
    few = number_kinds (λ k. is_integer k && ltb 64 c.bit_count ≡ false) (le-ltb 64 c.bit_count (omega (arith, near.held_of.held.ends))) refl number

    inside : ltb (length s) (at + bit_span c) ≡ false
    inside = le-ltb (length s) (at + bit_span c) (omega (arith, near.held_of.some, near.held_of.held.inside))

    module _ (big : Bool) (e : form_of c.data_type ≡ Number number big) where
      by_form : value_at (number_kind number) false s at c ≡ value_of s id_size c
      by_form = looked_for s id_size c {form = Number number big} {payload = false} (sym e) (sym near.fixed) refl refl

      -- a number's field is found there
      near_found : is_floating (number_kind number) && not (eqb c.bit_count 32 || eqb c.bit_count 64) ≡ false
          → FieldTold (number_kind number) (value_of s id_size c) s c (Ok (record { at = at; length = bit_span c }))
      near_found f =
          let v = found (number_kind number) false at (bit_span c) s c (number_span number false (length s) c) some low few inside f in
          record { told = record { value = sym by_form ∙ v.value; sound = v.sound } }

      -- or it is a float of a width that none has
      near_refused : is_floating (number_kind number) && not (eqb c.bit_count 32 || eqb c.bit_count 64) ≡ true → value_of s id_size c ≡ refusal 22 0
      near_refused f =
          sym by_form ∙ ap (λ (n : ℕ). value_by (number_kind number) at n s c) (sym (number_span number false (length s) c))
          ∙ no_float_width (number_kind number) at (bit_span c) s c some low few inside f

  abbrev field : Bool → ℕ
  field big = field_at (order_meant big) s (id_size + c.byte_offset) c.bit_offset c.bit_count

  -- what is read in the word is the field
  is_field : (big : Bool) {x : ℕ} → x ≡ field_at (order_meant big) (le 8 word) (from / 8) (from % 8) c.bit_count → x ≡ field big
  is_field big e =
      let o : Order = order_meant big in
      e ∙ ap (λ (offset : ℕ). field_at o (le 8 word) (from / 8) offset c.bit_count) near.held_of.held.low
      ∙ ap (λ (bs : List ℕ). bits (number_of o bs) c.bit_offset c.bit_count) near.held_of.held.bytes

-- ---- its value

module _ (s : List ℕ) (id_size : ℕ) (c : Channel) {number : numbers.Number} {big : Bool} {word from : ℕ}
    (fixed : variable_length c ≡ false) (sized : Sized (form_of c.data_type) number big c.bit_count) (held : HeldOf s id_size c word from) where
  in_sight : Near s id_size c word from
  in_sight = record { fixed = fixed; held_of = held }

  field_told : FieldTold (number_kind number) (value_of s id_size c) s c (Ok (record { at = id_size + c.byte_offset; length = bit_span c }))
  field_told = near_found s id_size c in_sight number big sized.form sized.width

  pub near_valued : {v : Value} → v ≡ number_value number c.bit_count (field_at (order_meant big) (le 8 word) (from / 8) (from % 8) c.bit_count) → answer v ≡ value_of s id_size c
  near_valued ev =
      valued field_told refl (sym sized.form) (ev ∙ ap (number_value number c.bit_count) (is_field s id_size c in_sight big refl)) refl

-- a field there is of the class that it was found to be
pub fitting_word : (number : numbers.Number) (o : Order) (s : List ℕ) (p offset : ℕ) {from count x : ℕ} → InWord number from count
    → x ≡ field_at o s p offset count → Fitting number count x
fitting_word number o s p offset {count = count} h e = record {
  some = h.some;
  few = omega (arith, h.ends);
  below = rw e (field_below (number_of o (span s p (bytes_for offset count))) offset count);
  width = h.width;
}

-- ---- its double

module _ (s : List ℕ) (id_size : ℕ) (c : Channel) {word from : ℕ} (near : Near s id_size c word from) (big : Bool) {x : ℕ}
    (ex : x ≡ field_at (order_meant big) (le 8 word) (from / 8) (from % 8) c.bit_count) where
  the_field : x ≡ field_at (order_meant big) s (id_size + c.byte_offset) c.bit_offset c.bit_count
  the_field = is_field s id_size c near big ex

  pub field_small : x < 2 ^ c.bit_count
  field_small = rw the_field (field_below (number_of (order_meant big) (span s (id_size + c.byte_offset) (bytes_for c.bit_offset c.bit_count))) c.bit_offset c.bit_count)

  module _ (number : numbers.Number) (e : form_of c.data_type ≡ Number number big) where
    number_double_law : is_floating (number_kind number) && not (eqb c.bit_count 32 || eqb c.bit_count 64) ≡ false
        → {r : ℕ} → r ≡ number_double number c.bit_count x → r ≡ record_double s id_size c
    number_double_law w er = double_found (near_found s id_size c near number big e w) refl e the_field er ∙ double_fixed s id_size c near.fixed

    -- an integer of either sign
    module _ (integral : is_floating (number_kind number) ≡ false) where
      any_width : is_floating (number_kind number) && not (eqb c.bit_count 32 || eqb c.bit_count 64) ≡ false
      any_width = rw integral

      pub integer_double : {r : ℕ} → r ≡ number_double number c.bit_count x → r ≡ record_double s id_size c
      integer_double er = number_double_law any_width er

  pub float_double : form_of c.data_type ≡ Number Float big → {r : ℕ}
      → r ≡ (if not (eqb c.bit_count 32 || eqb c.bit_count 64) then nan_pattern else float_bits c.bit_count x) → r ≡ record_double s id_size c
  float_double e {r} er = go (not (eqb c.bit_count 32 || eqb c.bit_count 64)) refl er
    where
      go : (t : Bool) → not (eqb c.bit_count 32 || eqb c.bit_count 64) ≡ t → r ≡ (if t then nan_pattern else float_bits c.bit_count x) → r ≡ record_double s id_size c
      go true w eq = eq ∙ sym (ap double_in (near_refused s id_size c near Float big e w)) ∙ double_fixed s id_size c near.fixed
      go false w eq = number_double_law Float e w eq

-- ---- in no word

-- a number that no field can be has no double, and what is no number has none either
module _ (s : List ℕ) (id_size : ℕ) (c : Channel) (fixed : variable_length c ≡ false) where
  by_refusal : ((k : Kind) (at n : ℕ) → is_number k ≡ true → value_by k at n s c ≡ refusal 18 0) → nan_pattern ≡ record_double s id_size c
  by_refusal h = go (form_of c.data_type) refl
    where
      go : (f : Form) → form_of c.data_type ≡ f → nan_pattern ≡ record_double s id_size c
      go (Number number big) e =
          double_number s id_size c fixed e
          (sym (ap double_in (h (number_kind number) (id_size + c.byte_offset) (span_in false (number_kind number) (length s) c) (is_number_law number))))
      go (Other content) e = double_other s id_size c fixed e

  pub without_bits : c.bit_count ≡ 0 → nan_pattern ≡ record_double s id_size c
  without_bits z = by_refusal (λ k at n e. no_bits k at n s c (rw (e, eq-eqb _ _ z)))
