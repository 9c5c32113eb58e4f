-- What the word of a number's field stands for, and which channels are such numbers.
use mathlib.Core.Path.{◌≡◌, refl, sym, ap, ◌∙◌}
use mathlib.Core.Bool.{Bool, true, false, not, ◌&&◌}
use mathlib.Core.List.{List}
use Prim.Native.Nat.{ℕ}
use Rattle.definitions.specs.Bytes.{Order, number_of, span, bytes_for, field_at}
use Rattle.definitions.specs.Ieee754.{double_of}
use Rattle.definitions.specs.DataType.{kind_of}
use Rattle.definitions.specs.Channel.{Channel, variable_length, is_number, is_fixed_number}
use Rattle.definitions.proofs.Replies.{both}
use borrow.Author.Tests.{not-true}
use Rattle.bit_fields.proofs.Bits.{field_below}
use Rattle.fields.specs.Form.{form_of, form_kind, number_value}
use Rattle.fields.specs.Known.{Fitting}
use Rattle.fields.specs.declared.form.Number.{Number}
use Rattle.fields.specs.declared.form.Number.TheVariants.{Unsigned, Signed, Float}
use Rattle.fields.specs.declared.form.Content.{Content}
use Rattle.fields.specs.declared.form.Form.{Form}
use Rattle.fields.specs.declared.form.Form.TheVariants.{Other}
use Rattle.fields.proofs.Forms.{kind_form, other_number}
use Rattle.tally.specs.Words.{Words}
use Rattle.slots.specs.Slots.{word_of, Within}
use Rattle.slots.specs.declared.slot.Slot.{Slot}
use Rattle.slots.proofs.Signs.{counted}

pub words : (number : Number) (count x : ℕ) → Fitting number count x → Words number (word_of number count x) (number_value number count x)
words Unsigned count x h = record { double = refl; integer = refl }
words Signed count x h =
    let e = counted count x h.some h.few h.below in
    record { double = ap double_of e; integer = e }
words Float count x h = record { double = refl; integer = refl }

-- a field in a slot is one of its bits
pub slot_fits : {size : ℕ} {w : Slot} → Within size w → (o : Order) (s : List ℕ) {x : ℕ} → x ≡ field_at o s w.at w.offset w.count → Fitting w.number w.count x
slot_fits {size} {w} h o s e = record {
  some = h.some;
  few = h.few;
  below = rw e (field_below (number_of o (span s w.at (bytes_for w.offset w.count))) w.offset w.count);
  width = h.width;
}

-- ---- fixed numbers

module _ (c : Channel) where
  pub never_variable : is_fixed_number c ≡ true → variable_length c ≡ false
  never_variable h = not-true _ (both (is_number (kind_of c.data_type)) (not (variable_length c)) h).1

  module _ {form : Form} (ef : form ≡ form_of c.data_type) where
    kind : {f : Form} → form ≡ f → is_number (kind_of c.data_type) ≡ is_number (form_kind f)
    kind e = ap is_number (sym (kind_form c.data_type) ∙ ap form_kind (sym ef ∙ e))

    -- what is no number is none
    pub other_fixed : {content : Content} → form ≡ Other content → false ≡ is_fixed_number c
    other_fixed {content} e = sym (other_number content (not (variable_length c))) ∙ ap (λ (t : Bool). t && not (variable_length c)) (sym (kind e))
