-- A type's kind and values, by its form.
use mathlib.Core.Path.{◌≡◌, refl, sym, ap, ◌∙◌, subst}
use mathlib.Core.Bool.{Bool, true, false, ◌&&◌}
use mathlib.Core.List.{List}
use Prim.Native.Nat.{ℕ}
use Rattle.definitions.specs.Bytes.{Order, little, big}
use Rattle.definitions.specs.Unicode.{latin1, utf8, utf16}
use Rattle.definitions.specs.DataType.{DataType, unsigned_integer, signed_integer, float, complex, string, byte_array, mime_sample, mime_stream, can_open_date, can_open_time, unknown, Kind, integer, floating, whole, undecoded, kind_of, order_of}
use Rattle.definitions.specs.Channel.{Channel, decoded, is_number, is_integer, is_floating, bit_span, span_in}
use Rattle.fields.specs.Form.{order_meant, form_of, number_kind, content_kind, form_kind, big_form, form_value}
use Rattle.fields.specs.declared.form.Number.{Number}
use Rattle.fields.specs.declared.form.Number.TheVariants.{Unsigned, Signed, Float}
use Rattle.fields.specs.declared.form.Form.{Form}
use Rattle.fields.specs.declared.form.Form.TheVariants.{Number as numbered, Other}
use Rattle.fields.specs.declared.form.Content.{Content}
use Rattle.fields.specs.declared.form.Content.TheVariants.{Text, ByteArray, MimeSample, MimeStream, Undecoded}
use Rattle.fields.proofs.Types.{number_types}

pub kind_form : (t : DataType) → form_kind (form_of t) ≡ kind_of t
kind_form (unsigned_integer o) = refl
kind_form (signed_integer o) = refl
kind_form (float o) = refl
kind_form (string latin1) = refl
kind_form (string utf8) = refl
kind_form (string (utf16 little)) = refl
kind_form (string (utf16 big)) = refl
kind_form byte_array = refl
kind_form mime_sample = refl
kind_form mime_stream = refl
kind_form can_open_date = refl
kind_form can_open_time = refl
kind_form (complex o) = refl
kind_form (unknown code) = refl

pub value_form : (t : DataType) (s : List ℕ) (at n : ℕ) (c : Channel) → form_value (form_of t) s at n c ≡ decoded t s at n c
unfolding decoded
value_form (unsigned_integer little) s at n c = refl
value_form (unsigned_integer big) s at n c = refl
value_form (signed_integer little) s at n c = refl
value_form (signed_integer big) s at n c = refl
value_form (float little) s at n c = refl
value_form (float big) s at n c = refl
value_form (string latin1) s at n c = refl
value_form (string utf8) s at n c = refl
value_form (string (utf16 little)) s at n c = refl
value_form (string (utf16 big)) s at n c = refl
value_form byte_array s at n c = refl
value_form mime_sample s at n c = refl
value_form mime_stream s at n c = refl
value_form can_open_date s at n c = refl
value_form can_open_time s at n c = refl
value_form (complex o) s at n c = refl
value_form (unknown code) s at n c = refl

-- what holds of the kinds of numbers, and of the other kinds
pub number_kinds : (P : Kind → Type 0) → P integer → P floating → (number : Number) → P (number_kind number)
number_kinds P i f Unsigned = i
number_kinds P i f Signed = i
number_kinds P i f Float = f

content_kinds : (P : Kind → Type 0) → P whole → P undecoded → (content : Content) → P (content_kind content)
content_kinds P w u (Text e) = w
content_kinds P w u ByteArray = w
content_kinds P w u MimeSample = w
content_kinds P w u MimeStream = w
content_kinds P w u Undecoded = u

-- a number has the span of its bits, and any other payload is taken whole
pub number_span : (number : Number) (payload : Bool) (n : ℕ) (c : Channel) → bit_span c ≡ span_in payload (number_kind number) n c
number_span number payload n c = number_kinds (λ k. bit_span c ≡ span_in payload k n c) refl refl number

pub whole_payload : (content : Content) (n : ℕ) (c : Channel) → n ≡ span_in true (content_kind content) n c
whole_payload content n c = content_kinds (λ k. n ≡ span_in true k n c) refl refl content

pub is_number_law : (number : Number) → is_number (number_kind number) ≡ true
is_number_law number = number_kinds (λ k. is_number k ≡ true) refl refl number

-- the order of a number's form is its type's
pub form_order : (t : DataType) → is_number (kind_of t) ≡ true → order_meant (big_form (form_of t)) ≡ order_of t
form_order = number_types (λ t. order_meant (big_form (form_of t)) ≡ order_of t) told told told
  where
    told : (o : Order) → order_meant (big_form (form_of (unsigned_integer o))) ≡ o
    told little = refl
    told big = refl

pub number_order : (t : DataType) {number : Number} {b : Bool} → form_of t ≡ numbered number b → order_meant b ≡ order_of t
number_order t {number} e =
    ap (λ (f : Form). order_meant (big_form f)) (sym e)
    ∙ form_order t (ap is_number (sym (kind_form t) ∙ ap form_kind e) ∙ is_number_law number)

-- what is no number passes the tests of numbers, integers and floats, whatever these find
module _ (content : Content) (t : Bool) where
  pub other_number : is_number (content_kind content) && t ≡ false
  other_number = content_kinds (λ k. is_number k && t ≡ false) refl refl content

  pub other_integer : is_integer (content_kind content) && t ≡ false
  other_integer = content_kinds (λ k. is_integer k && t ≡ false) refl refl content

  pub other_floating : is_floating (content_kind content) && t ≡ false
  other_floating = content_kinds (λ k. is_floating k && t ≡ false) refl refl content

-- what is no number is none
abbrev IsNumbered : Form → Type 0
IsNumbered (numbered number order) = Unit {0}
IsNumbered (Other content) = ⊥

pub no_number : {form : Form} {content : Content} {number : Number} {order : Bool} → form ≡ Other content → form ≡ numbered number order → ⊥
no_number e h = subst IsNumbered (sym h ∙ e) tt
