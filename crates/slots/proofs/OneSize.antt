-- In records of one size a fixed number has a value in all or in none, and it lies at one place.
use Rattle.std.specs.Prelude.{if◌then◌else◌, Result, Ok, Err}
use mathlib.Core.Path.{◌≡◌, refl, sym, ap, subst, ◌∙◌}
use mathlib.Core.Bool.{Bool, true, false}
use mathlib.Core.List.{List}
use Prim.Native.Nat.{ℕ, ◌+◌, ◌^◌, ◌<◌}
use native.Mathlib.Omega.{arith}
use lib.ListN.{length}
use Rattle.definitions.specs.Reply.{answer, refusal}
use Rattle.definitions.specs.Bytes.{bit}
use Rattle.definitions.specs.DataType.{kind_of}
use Rattle.definitions.specs.Channel.{Channel, Group, Value, start_of, span_in, span_of, number_in, decoded, is_fixed_number, value_of, record_length, valid_of, area_of, bounded_valid_of, bounded_value_of}
use Rattle.definitions.specs.Report.{has_no_value}
use Rattle.definitions.proofs.Replies.{not_answered}
use Rattle.refusals.specs.declared.Refusal.{Refusal}
use Rattle.refusals.specs.Meaning.{refusal_number, told_of}
use Rattle.fields.specs.Form.{order_meant, form_of, form_value, number_kind, number_value}
use Rattle.fields.specs.Known.{value_at, FieldTold, FieldPlaced, FieldCase, FieldBounds, Sound}
use Rattle.fields.specs.declared.form.Number.{Number}
use Rattle.fields.specs.declared.form.Form.{Form}
use Rattle.fields.specs.declared.form.Form.TheVariants.{Number as numbered}
use Rattle.fields.specs.declared.field.FieldSpan.{FieldSpan}
use Rattle.fields.proofs.Forms.{value_form}
use Rattle.fields.proofs.Fields.{either_way, readable}
use Rattle.fields.proofs.Values.{looked_for, refused_as, sound_at}
use Rattle.fields.proofs.Locality.{refusal_locality}
use Rattle.fields.proofs.Invalidation.{all_invalid}
use Rattle.tally.specs.Words.{Words}
use Rattle.slots.specs.Slots.{slot_word, Within, SlotOf}
use Rattle.slots.specs.Known.{FlagAsked, FlagOf}
use Rattle.slots.specs.declared.slot.Slot.{Slot}
use Rattle.slots.proofs.Numbers.{words, slot_fits, never_variable}
use Rattle.slots.proofs.Flags.{right_length, bit_inside}

-- where one slice has a value, each of its length has what its own bytes stand for
has_value : (s t : List ℕ) (id_size : ℕ) (c : Channel) {v : Value} → length t ≡ length s → value_of s id_size c ≡ answer v
    → value_of t id_size c ≡ answer (decoded c.data_type t (start_of id_size c) (span_of t c) c)
unfolding value_of
has_value s t id_size c {v} el e =
    either_way (kind_of c.data_type) (start_of id_size c) (span_of t c) t c
    (λ r. value_of t id_size c ≡ r → value_of t id_size c ≡ answer (decoded c.data_type t (start_of id_size c) (span_of t c) c))
    (λ number told er. not_answered v number told (sym (refusal_locality t s id_size c number told el er) ∙ e))
    (λ er. er) refl

-- both parts of a value with its validity
judged : (s : List ℕ) (g : Group) (c : Channel) {v : Value} {b : Bool} → value_of s g.id_size c ≡ answer v → area_of (length s) g c ≡ answer tt → valid_of s g c ≡ b
    → bounded_value_of s g c ≡ answer (record { value = v; valid = b })
unfolding bounded_value_of bounded_valid_of
judged s g c ev ea eb = rw (ev, ea, eb)

not_judged : (s : List ℕ) (g : Group) (c : Channel) {number told : ℕ} → value_of s g.id_size c ≡ refusal number told → has_no_value (bounded_value_of s g c) ≡ true
unfolding bounded_value_of
not_judged s g c e = rw e

-- s is the record that was asked
module _ (s : List ℕ) (g : Group) (c : Channel) (fixed : is_fixed_number c ≡ true) {form : Form} {number : Number} {big : Bool} {found : Result FieldSpan Refusal}
    (ef : form ≡ form_of c.data_type) (en : form ≡ numbered number big)
    (told : FieldTold (number_kind number) (value_at (number_kind number) false s (g.id_size + c.byte_offset) c) s c found) where
  as_value : value_at (number_kind number) false s (g.id_size + c.byte_offset) c ≡ value_of s g.id_size c
  as_value = looked_for s g.id_size c {form = numbered number big} {payload = false} (sym en ∙ ef) (sym (never_variable c fixed)) refl refl

  pub none_has : {why : Refusal} → found ≡ Err why → (t : List ℕ) → length t ≡ length s → has_no_value (bounded_value_of t g c) ≡ true
  none_has {why} e t el =
      not_judged t g c (refusal_locality s t g.id_size c (refusal_number why) (told_of why) (sym el) (sym as_value ∙ refused_as told e))

  module _ {f : FieldSpan} (e : found ≡ Ok f) (inside : area_of (length s) g c ≡ answer tt) where
    value : value_of s g.id_size c ≡ answer (decoded c.data_type s f.at f.length c)
    value = sym as_value ∙ (subst (FieldCase _ _ s c) e told.told).value

    abbrev value_in : List ℕ → Value
    value_in t = decoded c.data_type t (start_of g.id_size c) (span_of t c) c

    each_has : (t : List ℕ) → length t ≡ length s → {b : Bool} → valid_of t g c ≡ b → bounded_value_of t g c ≡ answer (record { value = value_in t; valid = b })
    each_has t el eb = judged t g c (has_value s t g.id_size c el value) (ap (λ (l : ℕ). area_of l g c) el ∙ inside) eb

    pub invalid_in_all : {a : ℕ} → a ≡ bit c.flags 0 → a ≡ 1 → (t : List ℕ) → length t ≡ length s
        → (v : Value) × (bounded_value_of t g c ≡ answer (record { value = v; valid = false }))
    invalid_in_all ea h t el = (value_in t, each_has t el (sym (all_invalid t g c ea h)))

    sound : Sound (number_kind number) s f.at f.length c
    sound = sound_at told e

    bounds : FieldBounds s f.at c.bit_offset c.bit_count
    bounds = readable number s f.at f.length c sound

    pub flag_asked : {a : ℕ} → a ≡ bit c.flags 0 → (a ≡ 1 → ⊥) → length s < 2 ^ 64 → FlagAsked g c
    flag_asked ea h fits =
        let l : length s ≡ record_length g = right_length (length s) g c inside in
        let clear : bit c.flags 0 ≡ 1 → ⊥ = λ z. h (ea ∙ z) in
        record {
          some = omega (arith, bounds.some, bounds.inside);
          fits = omega arith;
          clear = clear;
          inside = bit_inside (length s) g c inside clear;
        }

    module _ (placed : FieldPlaced (g.id_size + c.byte_offset) (span_in false (number_kind number) (length s) c) found)
        {flagAt flag_bit : ℕ} (flag : FlagOf g c flagAt flag_bit) where
      abbrev slot : Slot
      slot = record { number = number; big_endian = big; at = f.at; offset = c.bit_offset; count = c.bit_count; flag_at = flagAt; flag_bit = flag_bit }

      within : Within (length s) slot
      within =
          let l : length s ≡ record_length g = right_length (length s) g c inside in
          record {
            low = bounds.low;
            some = bounds.some;
            few = bounds.few;
            inside = bounds.inside;
            width = sound.width;
            flag = omega (arith, flag.inside);
            flag_bit = flag.low;
          }

      place : start_of g.id_size c ≡ f.at
      place =
          ap (λ (t : Bool). if t then 0 else (g.id_size + c.byte_offset)) (never_variable c fixed)
          ∙ sym (subst (FieldPlaced (g.id_size + c.byte_offset) (span_in false (number_kind number) (length s) c)) e placed).0

      -- the value is the number in the slot
      in_slot : (t : List ℕ) → value_in t ≡ number_value number c.bit_count (number_in (order_meant big) t f.at c)
      in_slot t =
          sym (value_form c.data_type t (start_of g.id_size c) (span_of t c) c)
          ∙ ap (λ (m : Form). form_value m t (start_of g.id_size c) (span_of t c) c) (sym ef ∙ en)
          ∙ ap (λ (p : ℕ). number_value number c.bit_count (number_in (order_meant big) t p c)) place

      pub slot_found : SlotOf (length s) g c slot
      slot_found = record {
        within = within;
        tells = λ t bytes el. (
          value_in t,
          each_has t el (flag.tells t bytes),
          subst (Words number (slot_word slot t)) (sym (in_slot t))
              (words number c.bit_count (number_in (order_meant big) t f.at c) (slot_fits within (order_meant big) t refl)),
        );
      }
