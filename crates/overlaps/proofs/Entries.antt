-- The tests of an entry in turn.
use mathlib.Core.Path.{◌≡◌, refl, sym, ap, ap₂, ◌∙◌}
use mathlib.Core.Bool.{Bool, true, false, not, ◌&&◌, ◌||◌}
use lib.Dec.{ltb, eqb}
use borrow.Author.Tests.{not-true}
use Rattle.definitions.specs.DataType.{Kind, kind_of}
use Rattle.definitions.specs.Channel.{Channel, variable_length, is_number, is_integer, is_floating, is_well_described, is_sound_number}
use Rattle.definitions.proofs.Replies.{both}
use Rattle.fields.specs.Form.{form_of, form_kind, number_kind, content_kind}
use Rattle.fields.specs.declared.form.Number.{Number}
use Rattle.fields.specs.declared.form.Content.{Content}
use Rattle.fields.specs.declared.form.Form.{Form}
use Rattle.fields.specs.declared.form.Form.TheVariants.{Number as numbered, Other}
use Rattle.fields.proofs.Forms.{kind_form, is_number_law, other_number}

-- a number, of variable length, described well
abbrev tested : Bool → Bool → Bool → Bool
tested n v w = n && not v && w

abbrev pub over_word : Kind → Channel → Bool
over_word k c = is_integer k && ltb 64 c.bit_count

abbrev pub no_width : Kind → Channel → Bool
no_width k c = is_floating k && not (eqb c.bit_count 32 || eqb c.bit_count 64)

module _ (c : Channel) where
  pub by_tests : {k : Kind} {n v w : Bool} → kind_of c.data_type ≡ k → is_number k ≡ n → variable_length c ≡ v → is_well_described k c ≡ w
      → is_sound_number c ≡ tested n v w
  unfolding is_sound_number
  by_tests {k} {n} {v} {w} ek en ev ew =
      ap (λ (t : Kind). tested (is_number t) (variable_length c) (is_well_described t c)) ek
      ∙ ap (λ (t : Bool). tested t (variable_length c) (is_well_described k c)) en
      ∙ ap₂ (λ (s t : Bool). tested n s t) ev ew

  kind_of_law : {f form : Form} → f ≡ form_of c.data_type → f ≡ form → kind_of c.data_type ≡ form_kind form
  kind_of_law ef e = sym (kind_form c.data_type) ∙ ap form_kind (sym ef ∙ e)

  no_number : (content : Content) → is_number (content_kind content) ≡ false
  no_number content = go (is_number (content_kind content)) refl (other_number content true)
    where
      go : (t : Bool) → is_number (content_kind content) ≡ t → is_number (content_kind content) && true ≡ false → t ≡ false
      go true e h = sym (ap (λ (b : Bool). b && true) e) ∙ h
      go false e h = refl

  pub other_form : {f : Form} {content : Content} → f ≡ form_of c.data_type → f ≡ Other content → false ≡ is_sound_number c
  other_form {content = content} ef e = sym (by_tests (kind_of_law ef e) (no_number content) refl refl)

  module _ {f : Form} {number : Number} {order v : Bool} (ef : f ≡ form_of c.data_type) (e : f ≡ numbered number order) (ev : v ≡ variable_length c) where
    pub variable_length_law : v ≡ true → false ≡ is_sound_number c
    variable_length_law h = sym (by_tests (kind_of_law ef e) (is_number_law number) (sym ev ∙ h) refl)

    pub by_description : {r : Bool} → v ≡ false → r ≡ is_well_described (number_kind number) c → r ≡ is_sound_number c
    by_description h er = sym (by_tests (kind_of_law ef e) (is_number_law number) (sym ev ∙ h) (sym er))

  -- a sound number passes each test
  pub each_passed : is_sound_number c ≡ true
      → (is_number (kind_of c.data_type) ≡ true) × (variable_length c ≡ false) × (eqb c.bit_count 0 ≡ false) × (ltb 7 c.bit_offset ≡ false)
      × (over_word (kind_of c.data_type) c ≡ false) × (no_width (kind_of c.data_type) c ≡ false)
  unfolding is_sound_number
  each_passed e =
      let k : Kind = kind_of c.data_type in
      let p = both (is_number k && not (variable_length c)) (is_well_described k c) e in
      let u = both (is_number k) (not (variable_length c)) p.0 in
      let q = both _ (not (no_width k c)) p.1 in
      let r = both _ (not (over_word k c)) q.0 in
      let t = both (not (eqb c.bit_count 0)) (not (ltb 7 c.bit_offset)) r.0 in
      (u.0, not-true _ u.1, not-true _ t.0, not-true _ t.1, not-true _ r.1, not-true _ q.1)

  -- and is a number
  pub sound_is_number : is_sound_number c ≡ true → is_number (kind_of c.data_type) ≡ true
  sound_is_number e = (each_passed e).0
