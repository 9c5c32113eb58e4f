-- The ways to a field, and to each refusal of one.
use Rattle.std.specs.Prelude.{if◌then◌else◌}
use mathlib.Core.Path.{◌≡◌, refl, sym, ap, ◌∙◌, subst}
use mathlib.Core.Logic.{inl, inr}
use mathlib.Core.Bool.{Bool, true, false, not, ◌&&◌, ◌||◌, true≢false}
use mathlib.Core.List.{List}
use Prim.Native.Nat.{ℕ, ◌+◌, ◌^◌, ◌≤◌, ◌<◌}
use native.Mathlib.Omega.{arith}
use lib.ListN.{length}
use lib.Dec.{ltb, eqb}
use borrow.Author.Tests.{ltb-false, eqb-false}
use Rattle.definitions.specs.Reply.{Reply, answer, refusal, told}
use Rattle.definitions.specs.DataType.{Kind, integer, floating, whole, undecoded}
use Rattle.definitions.specs.Channel.{Channel, Value, decoded, is_number, is_integer, is_floating, bit_span, span_in, value_by}
use Rattle.bit_fields.proofs.Bits.{field_below}
use Rattle.definitions.specs.Bytes.{number_of, span, bytes_for, field_at}
use Rattle.fields.specs.Form.{order_meant, number_kind, content_kind, form_kind}
use Rattle.fields.specs.Known.{value_at, FieldBounds, Sound, Valued, Fitting}
use Rattle.fields.specs.declared.form.Number.{Number}
use Rattle.fields.specs.declared.form.Number.TheVariants.{Float}
use Rattle.fields.specs.declared.form.Content.{Content}
use Rattle.fields.specs.declared.form.Form.{Form}
use Rattle.fields.specs.declared.form.Form.TheVariants.{Number as numbered}
use Rattle.fields.proofs.Forms.{is_number_law, number_span, other_number, other_integer, other_floating}
use Rattle.fields.proofs.Tests.{float_width}

-- the five tests in turn: what each says, the bytes that the fourth tells, and v where all are passed
abbrev pub in_turn : Bool → Bool → Bool → Bool → Bool → ℕ → Value → Reply Value
in_turn a b d e f size v =
    if a then refusal 18 0 else if b then refusal 19 0 else if d then refusal 20 0 else if e then refusal 21 (told size)
    else if f then refusal 22 0 else answer v

-- on a slice of l bytes
abbrev pub tested : Kind → ℕ → ℕ → ℕ → Channel → Value → Reply Value
tested k at n l c v =
    in_turn (is_number k && eqb c.bit_count 0) (is_number k && ltb 7 c.bit_offset) (is_integer k && ltb 64 c.bit_count) (ltb l (at + n))
    (is_floating k && not (eqb c.bit_count 32 || eqb c.bit_count 64)) (at + n) v

pub value_tested : (k : Kind) (at n : ℕ) (s : List ℕ) (c : Channel) → value_by k at n s c ≡ tested k at n (length s) c (decoded c.data_type s at n c)
unfolding value_by
value_tested k at n s c = refl

-- the first and the last test, and past them all
module _ (k : Kind) (at n : ℕ) (s : List ℕ) (c : Channel) where
  pub no_bits : is_number k && eqb c.bit_count 0 ≡ true → value_by k at n s c ≡ refusal 18 0
  unfolding value_by
  no_bits a = rw a

  pub no_float_width : is_number k && eqb c.bit_count 0 ≡ false → is_number k && ltb 7 c.bit_offset ≡ false
      → is_integer k && ltb 64 c.bit_count ≡ false → ltb (length s) (at + n) ≡ false
      → is_floating k && not (eqb c.bit_count 32 || eqb c.bit_count 64) ≡ true → value_by k at n s c ≡ refusal 22 0
  unfolding value_by
  no_float_width a b d e f = rw (a, b, d, e, f)

  passed : is_number k && eqb c.bit_count 0 ≡ false → is_number k && ltb 7 c.bit_offset ≡ false
      → is_integer k && ltb 64 c.bit_count ≡ false → ltb (length s) (at + n) ≡ false
      → is_floating k && not (eqb c.bit_count 32 || eqb c.bit_count 64) ≡ false → value_by k at n s c ≡ answer (decoded c.data_type s at n c)
  unfolding value_by
  passed a b d e f = rw (a, b, d, e, f)

  -- so there is a refusal, or what the bytes stand for
  pub either_way : (P : Reply Value → Type 0) → ((number t : ℕ) → P (refusal number t)) → P (answer (decoded c.data_type s at n c)) → P (value_by k at n s c)
  unfolding value_by
  either_way P none some =
      go (is_number k && eqb c.bit_count 0) (is_number k && ltb 7 c.bit_offset) (is_integer k && ltb 64 c.bit_count)
      (ltb (length s) (at + n)) (is_floating k && not (eqb c.bit_count 32 || eqb c.bit_count 64))
    where
      go : (a b d e f : Bool) → P (in_turn a b d e f (at + n) (decoded c.data_type s at n c))
      go true b d e f = none 18 0
      go false true d e f = none 19 0
      go false false true e f = none 20 0
      go false false false true f = none 21 (told (at + n))
      go false false false false true = none 22 0
      go false false false false false = some

-- and past them all the field is sound
sound : (k : Kind) (payload : Bool) (at n : ℕ) (s : List ℕ) (c : Channel) → n ≡ span_in payload k (length s) c
    → is_number k && eqb c.bit_count 0 ≡ false → is_number k && ltb 7 c.bit_offset ≡ false
    → is_integer k && ltb 64 c.bit_count ≡ false → ltb (length s) (at + n) ≡ false
    → is_floating k && not (eqb c.bit_count 32 || eqb c.bit_count 64) ≡ false → Sound k s at n c
sound integer payload at n s c en a b d e f =
    let x : at + n ≤ length s = ltb-false (length s) (at + n) e in
    let o : c.bit_offset ≤ 7 = ltb-false 7 c.bit_offset b in
    let w : c.bit_count ≤ 64 = ltb-false 64 c.bit_count d in
    let z : c.bit_count ≡ 0 → ⊥ = eqb-false c.bit_count 0 a in
    record {
      inside = x;
      number = λ _. record { low = omega arith; some = omega (arith, z); few = w; inside = omega arith };
      width = λ h. absurd (true≢false (sym h));
    }
sound floating payload at n s c en a b d e f =
    let x : at + n ≤ length s = ltb-false (length s) (at + n) e in
    let o : c.bit_offset ≤ 7 = ltb-false 7 c.bit_offset b in
    elim (float_width c.bit_count f) [
      | inl w ↦ record {
        inside = x;
        number = λ _. record { low = omega arith; some = omega arith; few = omega arith; inside = omega arith };
        width = λ _ _. w;
      }
      | inr w ↦ record {
        inside = x;
        number = λ _. record { low = omega arith; some = omega arith; few = omega arith; inside = omega arith };
        width = λ _ other. absurd (other w);
      }
    ]
sound whole payload at n s c en a b d e f = record {
  inside = ltb-false (length s) (at + n) e;
  number = λ h. absurd (true≢false (sym h));
  width = λ h. absurd (true≢false (sym h));
}
sound undecoded payload at n s c en a b d e f = record {
  inside = ltb-false (length s) (at + n) e;
  number = λ h. absurd (true≢false (sym h));
  width = λ h. absurd (true≢false (sym h));
}

pub found : (k : Kind) (payload : Bool) (at n : ℕ) (s : List ℕ) (c : Channel) → n ≡ span_in payload k (length s) c
    → is_number k && eqb c.bit_count 0 ≡ false → is_number k && ltb 7 c.bit_offset ≡ false
    → is_integer k && ltb 64 c.bit_count ≡ false → ltb (length s) (at + n) ≡ false
    → is_floating k && not (eqb c.bit_count 32 || eqb c.bit_count 64) ≡ false
    → Valued k (value_at k payload s at c) s at n c
found k payload at n s c en a b d e f = record {
  value = ap (λ (m : ℕ). value_by k at m s c) (sym en) ∙ passed k at n s c a b d e f;
  sound = sound k payload at n s c en a b d e f;
}

-- the field of a number that was found
pub number_sound : {form : Form} {number : Number} {order : Bool} {s : List ℕ} {at n : ℕ} {c : Channel} → form ≡ numbered number order
    → Sound (form_kind form) s at n c → Sound (number_kind number) s at n c
number_sound {s = s} {at = at} {n = n} {c = c} e h = subst (λ (f : Form). Sound (form_kind f) s at n c) e h

pub readable : (number : Number) (s : List ℕ) (at n : ℕ) (c : Channel) → Sound (number_kind number) s at n c → FieldBounds s at c.bit_offset c.bit_count
readable number s at n c h = h.number (is_number_law number)

pub fitting : (number : Number) (order : Bool) (s : List ℕ) (at n : ℕ) (c : Channel) {x : ℕ} → Sound (number_kind number) s at n c
    → x ≡ field_at (order_meant order) s at c.bit_offset c.bit_count → Fitting number c.bit_count x
fitting number order s at n c h e = record {
  some = (readable number s at n c h).some;
  few = (readable number s at n c h).few;
  below = rw e (field_below (number_of (order_meant order) (span s at (bytes_for c.bit_offset c.bit_count))) c.bit_offset c.bit_count);
  width = h.width;
}

pub same_number : {number m : Number} {count x : ℕ} → number ≡ m → Fitting number count x → Fitting m count x
same_number {count = count} {x = x} e h = subst (λ (k : Number). Fitting k count x) e h

pub narrow : {number : Number} {count x : ℕ} → Fitting number count x → number ≡ Float → (count ≡ 64 → ⊥) → x < 2 ^ 32
narrow {number} {count} {x} h e other =
    let w : count ≡ 32 = h.width (ap (λ (m : Number). is_floating (number_kind m)) e) other in
    subst (λ (k : ℕ). x < 2 ^ k) w h.below

-- ---- a number

-- what the five tests said of n bytes at `at`
pub record Asked (number : Number) (at n : ℕ) (s : List ℕ) (c : Channel) (a b d e f : Bool) : Type 0 where
  pub span : n ≡ bit_span c
  pub bits : a ≡ eqb c.bit_count 0
  pub offset : b ≡ ltb 7 c.bit_offset
  pub word : d ≡ is_integer (number_kind number) && ltb 64 c.bit_count
  pub end : e ≡ ltb (length s) (at + n)
  pub width : f ≡ is_floating (number_kind number) && not (eqb c.bit_count 32 || eqb c.bit_count 64)

-- the five tests as they were made
pub asked : (number : Number) (at n : ℕ) (s : List ℕ) (m : Channel) {word end width : Bool} → n ≡ bit_span m
    → word ≡ is_integer (number_kind number) && ltb 64 m.bit_count → end ≡ ltb (length s) (at + n)
    → width ≡ is_floating (number_kind number) && not (eqb m.bit_count 32 || eqb m.bit_count 64)
    → Asked number at n s m (eqb m.bit_count 0) (ltb 7 m.bit_offset) word end width
asked number at n s m es ew ee ef = record { span = es; bits = refl; offset = refl; word = ew; end = ee; width = ef }

module _ {number : Number} {at n : ℕ} {s : List ℕ} {c : Channel} {a b d e f : Bool} (t : Asked number at n s c a b d e f) where
  abbrev k : Kind
  k = number_kind number

  -- they decide the reply
  pub by_tests : value_by k at (bit_span c) s c ≡ in_turn a b d e f (at + n) (decoded c.data_type s at n c)
  unfolding value_by
  by_tests = rw (← t.span, is_number_law number, ← t.bits, ← t.offset, ← t.word, ← t.end, ← t.width)

  pub number_there : a ≡ false → b ≡ false → d ≡ false → e ≡ false → f ≡ false → Valued k (value_by k at (bit_span c) s c) s at n c
  number_there ea eb ed ee ef =
      let some : is_number k && eqb c.bit_count 0 ≡ false = rw (is_number_law number) (sym t.bits ∙ ea) in
      let low : is_number k && ltb 7 c.bit_offset ≡ false = rw (is_number_law number) (sym t.offset ∙ eb) in
      record {
        value = by_tests ∙ rw (ea, eb, ed, ee, ef);
        sound = sound k false at n s c (t.span ∙ number_span number false (length s) c) some low (sym t.word ∙ ed) (sym t.end ∙ ee) (sym t.width ∙ ef);
      }

-- ---- what is no number

module _ (content : Content) (payload : Bool) (at : ℕ) {n : ℕ} (s : List ℕ) (c : Channel) {e : Bool} (span : n ≡ span_in payload (content_kind content) (length s) c)
    (end : e ≡ ltb (length s) (at + n)) where
  pub content_outside : e ≡ true → value_at (content_kind content) payload s at c ≡ refusal 21 (told (at + n))
  unfolding value_by
  content_outside h =
      ap (λ (m : ℕ). value_by (content_kind content) at m s c) (sym span)
      ∙ rw (other_number content (eqb c.bit_count 0), other_number content (ltb 7 c.bit_offset), other_integer content (ltb 64 c.bit_count), ← end, h)

  pub content_there : e ≡ false → Valued (content_kind content) (value_at (content_kind content) payload s at c) s at n c
  content_there h = found (content_kind content) payload at n s c span (other_number content _) (other_number content _) (other_integer content _) (sym end ∙ h) (other_floating content _)
