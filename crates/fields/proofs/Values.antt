-- A value by the field that was found.
use Rattle.std.specs.Prelude.{if◌then◌else◌, Result, Ok, Err}
use mathlib.Core.Path.{◌≡◌, refl, sym, ap, ap₂, ◌∙◌, subst}
use mathlib.Core.Bool.{Bool, true, false}
use mathlib.Core.List.{List}
use Prim.Native.Nat.{ℕ, ◌+◌}
use Rattle.definitions.specs.Reply.{Reply, answer}
use Rattle.definitions.specs.DataType.{Kind, kind_of}
use Rattle.definitions.specs.Channel.{Channel, Value, variable_length, start_of, value_of}
use Rattle.refusals.specs.Meaning.{refused}
use Rattle.refusals.specs.declared.Refusal.{Refusal}
use Rattle.fields.specs.Form.{form_of, form_kind, form_value}
use Rattle.fields.specs.Known.{value_at, FieldCase, FieldTold, Sound}
use Rattle.fields.specs.declared.form.Form.{Form}
use Rattle.fields.specs.declared.field.FieldSpan.{FieldSpan}
use Rattle.fields.proofs.Forms.{kind_form, value_form}

start : (p : Bool) (a b : ℕ) → (if p then 0 else a) + (if p then 0 else b) ≡ (if p then 0 else (a + b))
start true a b = refl
start false a b = refl

-- what was looked for is the value
pub looked_for : (s : List ℕ) (id_size : ℕ) (c : Channel) {form : Form} {payload : Bool} {skipped offset : ℕ}
    → form ≡ form_of c.data_type → payload ≡ variable_length c → skipped ≡ (if payload then 0 else id_size) → offset ≡ (if payload then 0 else c.byte_offset)
    → value_at (form_kind form) payload s (skipped + offset) c ≡ value_of s id_size c
unfolding value_of
looked_for s id_size c {form} {payload} {skipped} {offset} ef ep es eo =
    let k : Kind = kind_of c.data_type in
    let ek : form_kind form ≡ k = ap form_kind ef ∙ kind_form c.data_type in
    let ea : skipped + offset ≡ start_of id_size c =
    ap₂ (λ (a b : ℕ). a + b) es eo ∙ start payload id_size c.byte_offset ∙ ap (λ (p : Bool). if p then 0 else (id_size + c.byte_offset)) ep in
    ap (λ (j : Kind). value_at j payload s (skipped + offset) c) ek
    ∙ ap₂ (λ (a : ℕ) (p : Bool). value_at k p s a c) ea ep

module _ {k : Kind} {reply : Reply Value} {s : List ℕ} {c : Channel} {found : Result FieldSpan Refusal} (h : FieldTold k reply s c found) where
  pub refused_as : {r : Refusal} → found ≡ Err r → reply ≡ refused r
  refused_as e = subst (FieldCase k reply s c) e h.told

  pub sound_at : {f : FieldSpan} → found ≡ Ok f → Sound k s f.at f.length c
  sound_at e = (subst (FieldCase k reply s c) e h.told).sound

  -- and a field gives the value that its form has
  pub valued : {f : FieldSpan} {form : Form} {x : Value} {v : Reply Value} → found ≡ Ok f → form ≡ form_of c.data_type
      → x ≡ form_value form s f.at f.length c → reply ≡ v → answer x ≡ v
  valued {f} e ef ex ev =
      ap answer (ex ∙ ap (λ (m : Form). form_value m s f.at f.length c) ef ∙ value_form c.data_type s f.at f.length c)
      ∙ sym (subst (FieldCase k reply s c) e h.told).value ∙ ev
