-- A value as a double, by the field that was found.
use mathlib.Core.Path.{◌≡◌, refl, sym, ap, ◌∙◌, subst}
use mathlib.Core.Bool.{Bool, true, false, not}
use mathlib.Core.List.{List}
use Prim.Native.Nat.{ℕ}
use lib.Dec.{T}
use lib.IntN.{ℤ}
use lib.Ieee.{binary64, is_nan, of_int}
use lib.Ieee.Bits.{of_bits-to_bits}
use lib.Ieee.Fits.{of_int-fits}
use Rattle.definitions.specs.Reply.{Reply, answer}
use Rattle.definitions.specs.Ieee754.{nan_pattern}
use Rattle.definitions.specs.DataType.{Kind, kind_of}
use Rattle.definitions.specs.Channel.{Channel, Value, variable_length, start_of, span_of, decoded, number_in, value_of, double_in, record_double}
use Rattle.doubles.proofs.Nan.{integer_never_nan}
use Rattle.refusals.specs.declared.Refusal.{Refusal}
use Rattle.fields.specs.Form.{order_meant, form_of, number_kind, number_value, content_value, form_value}
use Rattle.fields.specs.Known.{FieldCase, FieldTold}
use Rattle.fields.specs.declared.form.Number as numbers
use Rattle.fields.specs.declared.form.Number.TheVariants.{Unsigned, Signed, Float}
use Rattle.fields.specs.declared.form.Content.{Content}
use Rattle.fields.specs.declared.form.Content.TheVariants.{Text, ByteArray, MimeSample, MimeStream, Undecoded}
use Rattle.fields.specs.declared.form.Form.{Form}
use Rattle.fields.specs.declared.form.Form.TheVariants.{Number, Other}
use Rattle.fields.specs.declared.field.FieldSpan.{FieldSpan}
use Rattle.std.specs.Prelude.{Result, Ok, Err}
use Rattle.fields.proofs.Forms.{value_form}
use Rattle.fields.proofs.Fields.{either_way}
use Rattle.fields.proofs.Values.{refused_as, looked_for}
use Rattle.decoder.specs.Meaning.{number_double, double_at}

-- an integer's double is a number
pub no_nan : (z : ℤ) → T (not (is_nan (of_int binary64 z)))
no_nan z =
    let e : is_nan (of_int binary64 z) ≡ false = ap is_nan (sym (of_bits-to_bits binary64 (of_int binary64 z) (of_int-fits binary64 z))) ∙ integer_never_nan z in
    subst (λ (b : Bool). T (not b)) (sym e) tt

-- the double of what a form stands for
pub number_double_law : (number : numbers.Number) (count x : ℕ) → double_in (answer (number_value number count x)) ≡ number_double number count x
number_double_law Unsigned count x = refl
number_double_law Signed count x = refl
number_double_law Float count x = refl

content_double : (content : Content) (s : List ℕ) (at n : ℕ) → double_in (answer (content_value content s at n)) ≡ nan_pattern
content_double (Text e) s at n = refl
content_double ByteArray s at n = refl
content_double MimeSample s at n = refl
content_double MimeStream s at n = refl
content_double Undecoded s at n = refl

module _ {k : Kind} {reply : Reply Value} {s : List ℕ} {c : Channel} {found : Result FieldSpan Refusal} (h : FieldTold k reply s c found) where
  pub double_refused : {r : Refusal} → found ≡ Err r → nan_pattern ≡ double_in reply
  double_refused e = sym (ap double_in (refused_as h e))

  pub double_found : {f : FieldSpan} {x r : ℕ} {number : numbers.Number} {big : Bool} → found ≡ Ok f → form_of c.data_type ≡ Number number big
      → x ≡ number_in (order_meant big) s f.at c → r ≡ number_double number c.bit_count x → r ≡ double_in reply
  double_found {f} {x} {r} {number} {big} e ef ex er =
      er ∙ ap (number_double number c.bit_count) ex ∙ sym (number_double_law number c.bit_count (number_in (order_meant big) s f.at c))
      ∙ ap (λ (m : Form). double_in (answer (form_value m s f.at f.length c))) (sym ef) ∙ ap (λ (v : Value). double_in (answer v)) (value_form c.data_type s f.at f.length c)
      ∙ sym (ap double_in (subst (FieldCase k reply s c) e h.told).value)

module _ (s : List ℕ) (id_size : ℕ) (c : Channel) where
  pub double_payload : variable_length c ≡ true → nan_pattern ≡ record_double s id_size c
  unfolding record_double
  double_payload p = rw p

  pub double_fixed : variable_length c ≡ false → double_in (value_of s id_size c) ≡ record_double s id_size c
  unfolding record_double
  double_fixed p = rw p

  content_nan : (at n : ℕ) {content : Content} → form_of c.data_type ≡ Other content → nan_pattern ≡ double_in (answer (decoded c.data_type s at n c))
  content_nan at n {content} e =
      sym (content_double content s at n) ∙ ap (λ (f : Form). double_in (answer (form_value f s at n c))) (sym e)
      ∙ ap (λ (v : Value). double_in (answer v)) (value_form c.data_type s at n c)

  pub double_other : {content : Content} → variable_length c ≡ false → form_of c.data_type ≡ Other content → nan_pattern ≡ record_double s id_size c
  unfolding value_of
  double_other p e =
      either_way (kind_of c.data_type) (start_of id_size c) (span_of s c) s c (λ (r : Reply Value). nan_pattern ≡ double_in r) (λ n t. refl)
      (content_nan (start_of id_size c) (span_of s c) e)
      ∙ double_fixed p

  pub double_number : {number : numbers.Number} {big : Bool} {r : ℕ} → variable_length c ≡ false → form_of c.data_type ≡ Number number big
      → r ≡ double_at (number_kind number) s id_size c → r ≡ record_double s id_size c
  double_number {number} {big} p e er =
      er ∙ ap double_in (looked_for s id_size c {form = Number number big} {payload = false} (sym e) (sym p) refl refl) ∙ double_fixed p
