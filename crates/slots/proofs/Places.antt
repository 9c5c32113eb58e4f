-- The word of the eight bytes at a slot's place is that of the record.
use mathlib.Core.Path.{◌≡◌, refl, sym, ap, ap₂, subst, ◌∙◌}
use mathlib.Core.Bool.{Bool, true, false}
use mathlib.Core.List.{List}
use Prim.Native.Nat.{ℕ, ◌+◌, ◌*◌, ◌/◌, ◌%◌, ◌≤◌}
use native.Mathlib.Omega.{arith}
use lib.ListN.{length}
use Rattle.definitions.specs.Bytes.{Order, little, big, number_of, le, u64_at, bits, field_at}
use Rattle.words.proofs.Numbers.{Bytes}
use Rattle.bit_fields.proofs.Ways.{near, low}
use Rattle.fields.specs.Form.{order_meant}
use Rattle.fields.specs.Known.{Fitting}
use Rattle.fields.specs.declared.form.Number.{Number}
use Rattle.decoder.specs.Known.{Held, InWord}
use Rattle.decoder.proofs.WordFields.{held_by, fitting_word}
use Rattle.slots.specs.Slots.{word_of, slot_word, shift_in, Within, ShiftTold}
use Rattle.slots.specs.declared.slot.Slot.{Slot}

-- what is read in a word that holds a field is the field
held_field : (o : Order) (s : List ℕ) (at offset count : ℕ) {word from : ℕ} → Held s at offset count word from
    → field_at o (le 8 word) (from / 8) (from % 8) count ≡ field_at o s at offset count
held_field o s at offset count {word} {from} h =
    ap (λ (k : ℕ). field_at o (le 8 word) (from / 8) k count) h.low ∙ ap (λ (bs : List ℕ). bits (number_of o bs) offset count) h.bytes

whole_bytes : (from : ℕ) → from ≡ from / 8 * 8 + from % 8
whole_bytes from = omega arith

-- what is cut from a word at that shift is the field in its bytes
shifted : (b : Bool) (word from count : ℕ) {x shift : ℕ} → shift ≡ shift_in b from count → from + count ≤ 64
    → x ≡ bits (number_of (order_meant b) (le 8 word)) shift count → x ≡ field_at (order_meant b) (le 8 word) (from / 8) (from % 8) count
shifted true word from count es to e =
    near big word from count (e ∙ ap (λ (n : ℕ). bits (number_of big (le 8 word)) n count) (es ∙ low big from count to refl)) refl to
shifted false word from count es to e =
    near little word from count (e ∙ ap (λ (n : ℕ). bits (number_of little (le 8 word)) n count) (es ∙ whole_bytes from ∙ low little from count to refl)) refl to

module _ {size : ℕ} {w : Slot} (p : ℕ) {shift : ℕ} (h : Within size w) (told : ShiftTold size w p shift) where
  abbrev from : ℕ
  from = told.from

  place_word : InWord w.number from w.count
  place_word = record { some = h.some; ends = told.place.2; width = h.width }

  module _ {count x : ℕ} (word : ℕ) (width : count ≡ w.count) (ex : x ≡ bits (number_of (order_meant w.big_endian) (le 8 word)) shift count) where
    field : x ≡ field_at (order_meant w.big_endian) (le 8 word) (from / 8) (from % 8) w.count
    field =
        shifted w.big_endian word from w.count told.is told.place.2
        (ex ∙ ap (bits (number_of (order_meant w.big_endian) (le 8 word)) shift) width)

    pub place_fits : Fitting w.number count x
    place_fits = subst (λ (k : ℕ). Fitting w.number k x) (sym width) (fitting_word w.number (order_meant w.big_endian) (le 8 word) (from / 8) (from % 8) place_word field)

    -- and what is made of them
    pub place_is_slot : (s : List ℕ) {number : Number} → Bytes s → length s ≡ size → word ≡ u64_at s p → number ≡ w.number → word_of number count x ≡ slot_word w s
    place_is_slot s {number} bytes el ew kind =
        ap₂ (λ (k : Number) (m : ℕ). word_of k m x) kind width
        ∙ ap (word_of w.number w.count)
        (field ∙ held_field (order_meant w.big_endian) s w.at w.offset w.count
        (held_by s w.at w.offset w.count p 8 from ew bytes (omega (arith, told.place.0)) (omega arith) told.place.1 h.low h.some (omega (arith, told.place.2))))
