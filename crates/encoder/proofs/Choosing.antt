-- The ways to the field that is written to, and to each refusal.
use Rattle.std.specs.Prelude.{if◌then◌else◌, Ok, Err}
use mathlib.Core.Path.{◌≡◌, refl, sym, ap, ap₂, ◌∙◌, subst}
use mathlib.Core.Bool.{Bool, true, false, not, ◌&&◌, ◌||◌, true≢false}
use mathlib.Core.List.{List}
use Prim.Native.Nat.{ℕ, ◌+◌, ◌^◌, ◌<◌}
use native.Mathlib.Omega.{arith}
use lib.ListN.{length}
use lib.Dec.{ltb, eqb}
use borrow.Author.Tests.{eqb-false, not-true}
use Rattle.definitions.specs.Reply.{Reply, answer, refusal}
use Rattle.definitions.specs.Bytes.{Order, little, big, bytes_for, field_set}
use Rattle.definitions.specs.Unicode.{latin1, utf8, utf16}
use Rattle.definitions.specs.DataType.{DataType, unsigned_integer, signed_integer, float, complex, string, byte_array, mime_sample, mime_stream, can_open_date, can_open_time, unknown, Kind}
use Rattle.definitions.specs.Channel.{Channel, Value, variable_length, bit_span, is_integer, is_floating, decoded, value_by, value_of}
use Rattle.definitions.specs.WrittenValue.{Given, other_kind, type_field, field_given, value_written}
use Rattle.definitions.proofs.Replies.{not_answered, both}
use Rattle.refusals.specs.declared.Refusal.{Refusal}
use Rattle.fields.specs.Form.{order_meant, form_of, number_kind}
use Rattle.fields.specs.Known.{FieldBounds, Valued}
use Rattle.fields.specs.declared.form.Number as numbers
use Rattle.fields.specs.declared.form.Form.{Form}
use Rattle.fields.specs.declared.form.Form.TheVariants.{Number, Other}
use Rattle.fields.specs.declared.form.Content.{Content}
use Rattle.fields.proofs.Forms.{number_span, number_order}
use Rattle.fields.proofs.Fields.{in_turn, readable as bounded, Asked, by_tests, number_there}
use Rattle.fields.proofs.Values.{looked_for}
use Rattle.refusals.specs.Meaning.{refused}
use Rattle.encoder.specs.Meaning.{number_field, outcome}
use Rattle.encoder.specs.Known.{TakesNone, is_readable, Placed, Chosen}
use Rattle.encoder.specs.declared.encode.FieldChosen.{FieldChosen}
use Rattle.encoder.proofs.Standing.{stands}

-- ---- by the form of a type

abbrev pub form_field : Form → ℕ → Given → Reply ℕ
form_field (Number number b) count v = number_field number count v
form_field (Other content) count v = other_kind

pub field_form : (t : DataType) (count : ℕ) (v : Given) → type_field t count v ≡ form_field (form_of t) count v
field_form (unsigned_integer o) count v = refl
field_form (signed_integer o) count v = refl
field_form (float o) count v = refl
field_form (complex o) count v = refl
field_form (string latin1) count v = refl
field_form (string utf8) count v = refl
field_form (string (utf16 little)) count v = refl
field_form (string (utf16 big)) count v = refl
field_form byte_array count v = refl
field_form mime_sample count v = refl
field_form mime_stream count v = refl
field_form can_open_date count v = refl
field_form can_open_time count v = refl
field_form (unknown code) count v = refl

-- ---- what is asked of the value

module _ (s : List ℕ) (id_size : ℕ) (c : Channel) (v : Given) where
  pub value_refused : {n t : ℕ} → value_of s id_size c ≡ refusal n t → field_given s id_size c v ≡ refusal n t
  unfolding field_given
  value_refused e = rw e

  pub payload_given : {old : Value} → value_of s id_size c ≡ answer old → variable_length c ≡ true → field_given s id_size c v ≡ other_kind
  unfolding field_given
  payload_given e h = rw (e, h)

  pub fixed_given : {old : Value} → value_of s id_size c ≡ answer old → variable_length c ≡ false → field_given s id_size c v ≡ type_field c.data_type c.bit_count v
  unfolding field_given
  fixed_given e h = rw (e, h)

-- an answer has passed every test of decoding
pub all_passed : (a b d e f : Bool) (size : ℕ) (v old : Value) → in_turn a b d e f size v ≡ answer old → (a ≡ false) × (b ≡ false) × (d ≡ false) × (e ≡ false) × (f ≡ false)
all_passed true b d e f size v old h = not_answered old 18 0 h
all_passed false true d e f size v old h = not_answered old 19 0 h
all_passed false false true e f size v old h = not_answered old 20 0 h
all_passed false false false true f size v old h = not_answered old 21 _ h
all_passed false false false false true size v old h = not_answered old 22 0 h
all_passed false false false false false size v old h = (refl, refl, refl, refl, refl)

module _ (s : List ℕ) (id_size : ℕ) (c : Channel) where
  -- ---- where nothing can be written

  pub payload_takes_none : variable_length c ≡ true → TakesNone s id_size c
  payload_takes_none h v old e = payload_given s id_size c v e h

  pub other_takes_none : {form : Form} {content : Content} → variable_length c ≡ false → form ≡ form_of c.data_type → form ≡ Other content → TakesNone s id_size c
  other_takes_none h ef eo v old e =
      fixed_given s id_size c v e h ∙ field_form c.data_type c.bit_count v ∙ ap (λ (f : Form). form_field f c.bit_count v) (sym ef ∙ eo)

  -- ---- a number

  module _ (number : numbers.Number) (b : Bool) (fixed : variable_length c ≡ false) (en : form_of c.data_type ≡ Number number b) where
    abbrev at : ℕ
    at = id_size + c.byte_offset

    abbrev k : Kind
    k = number_kind number

    -- the tests of decoding
    asked : Asked number at (bit_span c) s c (eqb c.bit_count 0) (ltb 7 c.bit_offset) (is_integer k && ltb 64 c.bit_count) (ltb (length s) (at + bit_span c))
        (is_floating k && not (eqb c.bit_count 32 || eqb c.bit_count 64))
    asked = record { span = refl; bits = refl; offset = refl; word = refl; end = refl; width = refl }

    value_is : value_by k at (bit_span c) s c ≡ value_of s id_size c
    value_is = ap (λ (n : ℕ). value_by k at n s c) (number_span number false (length s) c) ∙ looked_for s id_size c {form = Number number b} {payload = false} (sym en) (sym fixed) refl refl

    -- a number of some bits reaches into as many bytes as hold them
    same_end : eqb c.bit_count 0 ≡ false → ltb (length s) (at + bit_span c) ≡ ltb (length s) (at + bytes_for c.bit_offset c.bit_count)
    same_end e =
        let some : c.bit_count ≡ 0 → ⊥ = eqb-false c.bit_count 0 e in
        let span : bit_span c ≡ bytes_for c.bit_offset c.bit_count = omega (arith, some) in
        ap (λ (n : ℕ). ltb (length s) (at + n)) span

    pub reads : is_readable (length s) id_size number c ≡ true → Valued k (value_of s id_size c) s at (bit_span c) c
    reads e =
        let a = both _ _ e in
        let f = both _ _ a.0 in
        let d = both _ _ f.0 in
        let o = both _ _ d.0 in
        let some : eqb c.bit_count 0 ≡ false = not-true _ o.0 in
        subst (λ (r : Reply Value). Valued k r s at (bit_span c) c) value_is
        (number_there asked some (not-true _ o.1) (not-true _ d.1) (same_end some ∙ not-true _ a.1) (not-true _ f.1))

    -- the field lies in the record
    pub in_bounds : is_readable (length s) id_size number c ≡ true → FieldBounds s at c.bit_offset c.bit_count
    in_bounds e = bounded number s at (bit_span c) c (reads e).sound

    pub reads_none : is_readable (length s) id_size number c ≡ false → TakesNone s id_size c
    reads_none e v old there =
        let t =
        all_passed (eqb c.bit_count 0) (ltb 7 c.bit_offset) (is_integer k && ltb 64 c.bit_count) (ltb (length s) (at + bit_span c))
        (is_floating k && not (eqb c.bit_count 32 || eqb c.bit_count 64)) (at + bit_span c) (decoded c.data_type s at (bit_span c) c) old
        (sym (by_tests asked) ∙ value_is ∙ there) in
        let end : ltb (length s) (at + bytes_for c.bit_offset c.bit_count) ≡ false = sym (same_end t.0) ∙ t.3 in
        let holds : is_readable (length s) id_size number c ≡ true = rw (t.0, t.1, t.2, t.4, end) in
        absurd (true≢false (sym holds ∙ e))

    module _ (readable : is_readable (length s) id_size number c ≡ true) (v : Given) where
      valued : Valued k (value_of s id_size c) s at (bit_span c) c
      valued = reads readable

      bounds : FieldBounds s at c.bit_offset c.bit_count
      bounds = bounded number s at (bit_span c) c valued.sound

      by_number : {field : Reply ℕ} → field ≡ number_field number c.bit_count v → field_given s id_size c v ≡ field
      by_number eb =
          fixed_given s id_size c v valued.value fixed ∙ field_form c.data_type c.bit_count v
          ∙ ap (λ (f : Form). form_field f c.bit_count v) en ∙ sym eb

      pub bits_refused : (r : Refusal) → refused r ≡ number_field number c.bit_count v → Chosen s id_size c v (Err r)
      bits_refused r eb = by_number eb

      pub bits_chosen : (x : ℕ) → answer x ≡ number_field number c.bit_count v → x < 2 ^ 64
          → Chosen s id_size c v (Ok (record { at = at; big_endian = b; bits = x }))
      bits_chosen x eb l = record {
        bits = by_number eb;
        start = ap (λ (t : Bool). if t then 0 else (id_size + c.byte_offset)) (sym fixed);
        order = number_order c.data_type en;
        bounds = bounds;
        below = (stands c.bit_count x bounds.some number v (λ f. l) valued.sound.width (sym eb)).below;
      }

-- ---- the whole

module _ (s : List ℕ) (id_size : ℕ) (c : Channel) (v : Given) where
  pub refused_left : (why : Refusal) → Chosen s id_size c v (Err why) → outcome (Err why) s ≡ value_written s id_size c v
  unfolding value_written
  refused_left why h = rw h

  pub field_left : {f : FieldChosen} → Placed s id_size c v f → {t : List ℕ} → t ≡ field_set (order_meant f.big_endian) s f.at c.bit_offset c.bit_count f.bits
      → outcome (Ok tt) t ≡ value_written s id_size c v
  unfolding value_written
  field_left {f} p et =
      rw p.bits
      (ap (outcome (Ok tt))
      (et ∙ ap₂ (λ (o : Order) (q : ℕ). field_set o s q c.bit_offset c.bit_count f.bits) p.order p.start))
