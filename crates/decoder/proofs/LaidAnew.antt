-- A channel laid down anew decodes alike: the general way is handed numbers, and makes a channel of them.
use Rattle.std.specs.Prelude.{if◌then◌else◌}
use mathlib.Core.Path.{◌≡◌, refl, sym, ap, ◌∙◌}
use mathlib.Core.Bool.{Bool, false}
use mathlib.Core.List.{List}
use Prim.Native.Nat.{ℕ, ◌+◌, ◌-◌}
use native.Mathlib.Omega.{arith}
use lib.ListN.{length, take, drop}
use Rattle.definitions.specs.Reply.{Reply}
use Rattle.definitions.specs.DataType.{DataType, Kind, integer, floating, whole, undecoded}
use Rattle.definitions.specs.Channel.{Channel, Value, variable_length, span_in, decoded, value_by, value_of, double_in, record_double}
use Rattle.fields.specs.Form.{form_of, form_kind, form_value}
use Rattle.fields.specs.Known.{value_at}
use Rattle.fields.specs.declared.form.Form.{Form}
use Rattle.fields.specs.declared.form.Form.TheVariants.{Number, Other}
use Rattle.fields.proofs.Forms.{value_form}
use Rattle.fields.proofs.Fields.{tested, value_tested}
use Rattle.fields.proofs.Values.{looked_for}
use Rattle.words.proofs.Spans.{span_whole}
use Rattle.decoder.specs.Meaning.{placed}
use Rattle.decoder.proofs.Doubles.{double_fixed}

-- what was looked for, of the channel that was laid down
pub value_placed : (payload : Bool) (s : List ℕ) (at : ℕ) {form : Form} {c d : Channel} → form ≡ form_of c.data_type → c ≡ d
    → value_at (form_kind form) payload s at c ≡ value_at (form_kind (form_of d.data_type)) payload s at d
value_placed payload s at {form} {c} {d} ef e =
    ap (λ (f : Form). value_at (form_kind f) payload s at c) ef ∙ ap (λ (x : Channel). value_at (form_kind (form_of x.data_type)) payload s at x) e

-- the form of its type, its bit offset and its bit count say all of the value at a place
abbrev pub alike : Channel → DataType → ℕ → Channel
alike c type byte_offset = placed type c.bit_offset byte_offset c.bit_count

form_alike : (f : Form) (s : List ℕ) (at n : ℕ) (c : Channel) (type : DataType) (o : ℕ) → form_value f s at n (alike c type o) ≡ form_value f s at n c
form_alike (Number number big) s at n c type o = refl
form_alike (Other content) s at n c type o = refl

span_alike : (payload : Bool) (k : Kind) (n : ℕ) (c : Channel) (type : DataType) (o : ℕ) → span_in payload k n (alike c type o) ≡ span_in payload k n c
span_alike payload integer n c type o = refl
span_alike payload floating n c type o = refl
span_alike payload whole n c type o = refl
span_alike payload undecoded n c type o = refl

module _ (s : List ℕ) (id_size : ℕ) (c : Channel) (type : DataType) (form : form_of type ≡ form_of c.data_type) where
  decoded_alike : (at n o : ℕ) → decoded type s at n (alike c type o) ≡ decoded c.data_type s at n c
  decoded_alike at n o =
      sym (value_form type s at n (alike c type o)) ∙ form_alike (form_of type) s at n c type o ∙ ap (λ (f : Form). form_value f s at n c) form
      ∙ value_form c.data_type s at n c

  value_alike : (k : Kind) (payload : Bool) (at o : ℕ) → value_at k payload s at (alike c type o) ≡ value_at k payload s at c
  value_alike k payload at o =
      let n : ℕ = span_in payload k (length s) c in
      ap (λ (n : ℕ). value_by k at n s (alike c type o)) (span_alike payload k (length s) c type o)
      ∙ value_tested k at n s (alike c type o) ∙ ap (tested k at n (length s) c) (decoded_alike at n o) ∙ sym (value_tested k at n s c)

  -- so a channel laid down anew has the same value, and the same double
  pub laid_anew : {payload : Bool} {skipped offset : ℕ} {r : Reply Value} → payload ≡ variable_length c
      → skipped ≡ (if payload then 0 else id_size) → offset ≡ (if payload then 0 else c.byte_offset)
      → r ≡ value_at (form_kind (form_of type)) payload s (skipped + offset) (alike c type 0) → r ≡ value_of s id_size c
  laid_anew {payload} {skipped} {offset} ep es eo er =
      er ∙ value_alike (form_kind (form_of type)) payload (skipped + offset) 0 ∙ looked_for s id_size c {form = form_of type} form ep es eo

  double_alike : variable_length c ≡ false → record_double s id_size (alike c type c.byte_offset) ≡ record_double s id_size c
  double_alike fixed =
      let other : Channel = alike c type c.byte_offset in
      sym (double_fixed s id_size other refl)
      ∙ ap double_in (sym (looked_for s id_size other {form = form_of type} {payload = false} refl refl refl refl)
      ∙ value_alike (form_kind (form_of type)) false (id_size + c.byte_offset) c.byte_offset
      ∙ looked_for s id_size c {form = form_of type} {payload = false} form (sym fixed) refl refl)
      ∙ double_fixed s id_size c fixed

-- the general way is handed the record as a part of itself
pub far_taken : (s : List ℕ) (id_size : ℕ) (c : Channel) (type : DataType) {r : ℕ} → form_of type ≡ form_of c.data_type → variable_length c ≡ false
    → r ≡ record_double (take (length s - 0) (drop 0 s)) id_size (alike c type c.byte_offset) → r ≡ record_double s id_size c
far_taken s id_size c type form fixed er =
    let whole : length s - 0 ≡ length s = omega arith in
    er ∙ ap (λ (part : List ℕ). record_double part id_size (alike c type c.byte_offset)) (ap (λ (n : ℕ). take n s) whole ∙ span_whole s)
    ∙ double_alike s id_size c type form fixed
