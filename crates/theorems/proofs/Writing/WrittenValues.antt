-- A number that was written: it is decoded again, and no bit outside its field is changed; and what was decoded is written over
-- itself.
use Rattle.std.specs.Prelude.{if◌then◌else◌}
use mathlib.Core.Path.{◌≡◌, refl, sym, ap, ap₂, ◌∙◌, subst}
use mathlib.Core.Logic.{inl, inr}
use mathlib.Core.Bool.{Bool, true, false, not, ◌&&◌, ◌||◌, true≢false}
use mathlib.Core.List.{List}
use Prim.Native.Nat.{ℕ, ◌+◌, ◌*◌, ◌/◌, ◌%◌, ◌^◌, ◌≤◌, ◌<◌}
use native.Mathlib.Omega.{arith}
use lib.ListN.{length, get_or}
use lib.Dec.{ltb, eqb}
use Rattle.definitions.specs.Reply.{Outcome, answer, refusal}
use Rattle.definitions.specs.Bytes.{Order, number_of, span, bit, bytes_for}
use Rattle.definitions.specs.Ieee754.{narrowed, narrows}
use Rattle.definitions.specs.DataType.{DataType, Kind, integer, floating, whole, undecoded, kind_of, order_of}
use Rattle.definitions.specs.Channel.{Channel, Group, Value, variable_length, start_of, span_in, span_of, number_in, decoded, is_integer, is_floating, is_number, value_of, double_in, bit_place}
use Rattle.definitions.specs.Overlap.{share_a_bit}
use Rattle.definitions.specs.WrittenValue.{Given, given_unsigned, given_signed, given_double, given_other, fitting, type_field, field_given, field_written, value_written}
use Rattle.definitions.proofs.Replies.{answered, not_answered}
use Rattle.definitions.proofs.Shared.{Within, apart}
use Rattle.words.proofs.Numbers.{Bytes}
use Rattle.bit_fields.proofs.Bits.{field_below}
use Rattle.bit_fields.proofs.StoredFields.{place_of, bit_there, there, length_stored, bytes_stored, reads_back, untouched, stored_same}
use Rattle.doubles.proofs.NarrowedPatterns.{narrowed_lt, ComesBack}
use Rattle.fields.specs.Form.{order_meant, form_of, number_kind, content_kind, form_kind, number_value, content_value, form_value}
use Rattle.fields.specs.Known.{FieldBounds}
use Rattle.fields.specs.declared.form.Number as numbers
use Rattle.fields.specs.declared.form.Form.{Form}
use Rattle.fields.specs.declared.form.Form.TheVariants.{Number, Other}
use Rattle.fields.specs.declared.form.Content.{Content}
use Rattle.fields.specs.declared.form.Content.TheVariants.{Text, ByteArray, MimeSample, MimeStream, Undecoded}
use Rattle.fields.proofs.Forms.{kind_form, value_form, number_order, is_number_law, other_number}
use Rattle.fields.proofs.Fields.{tested, value_tested}
use Rattle.fields.proofs.Locality.{locality}
use Rattle.fields.proofs.OneBit.{one_bit, bounded_alike}
use Rattle.decoder.proofs.Doubles.{double_fixed}
use Rattle.encoder.specs.Meaning.{value_given, number_field}
use Rattle.encoder.proofs.Standing.{kind_in, stands, made_again}
use Rattle.encoder.proofs.Choosing.{form_field, field_form, fixed_given, all_passed}
use Rattle.theorems.specs.Exactly.{Legal, FieldStands, Writable}
use Rattle.theorems.specs.WrittenValue.{WrittenEnds, not_decoded, other_kind, does_not_fit, is_written, IsNumber, Sized, record_place, DecodesTo, SameOutside}
use Rattle.theorems.proofs.Calls.Outcomes.{of_outcome}
use Rattle.theorems.proofs.Calls.Answers.{value_exactly}
use Rattle.theorems.proofs.Writing.WrittenEnds.{written, value_ends}

-- ---- the field that is written

-- the tests of a field do not ask what stands in it
passed_alike : (k : Kind) (at n l : ℕ) (c : Channel) (a b u : Value) → tested k at n l c a ≡ answer b → tested k at n l c u ≡ answer u
passed_alike k at n l c a b u h =
    let passed =
    all_passed (is_number k && eqb c.bit_count 0) (is_number k && ltb 7 c.bit_offset) (is_integer k && ltb 64 c.bit_count) (ltb l (at + n))
    (is_floating k && not (eqb c.bit_count 32 || eqb c.bit_count 64)) (at + n) a b h in
    rw (passed.0, passed.1, passed.2, passed.3, passed.4)

-- where a channel has a value, records of the same length have what stands in them
stands_alike : (s t : List ℕ) (id_size : ℕ) (c : Channel) {old : Value} → length t ≡ length s → value_of s id_size c ≡ answer old
    → value_of t id_size c ≡ answer (decoded c.data_type t (start_of id_size c) (span_of t c) c)
unfolding value_of
stands_alike s t id_size c {old} el e =
    let k : Kind = kind_of c.data_type in
    let at : ℕ = start_of id_size c in
    let here : Value = decoded c.data_type t at (span_of t c) c in
    value_tested k at (span_of t c) t c
    ∙ ap (λ (l : ℕ). tested k at (span_in (variable_length c) k l c) l c here) el
    ∙ passed_alike k at (span_of s c) (length s) c (decoded c.data_type s at (span_of s c) c) old here (sym (value_tested k at (span_of s c) s c) ∙ e)

-- a number's field that stands can be read, and a float has 32 bits or 64
bounds_of : (k : Kind) (payload : Bool) (s : List ℕ) (at : ℕ) (c : Channel) → is_number k ≡ true → Legal k c → at + span_in payload k (length s) c ≤ length s
    → FieldBounds s at c.bit_offset c.bit_count
bounds_of integer payload s at c h l inside = record { low = omega (arith, l.2); some = omega (arith, l.0); few = l.1; inside = omega arith }
bounds_of floating payload s at c h (inl w, o) inside = record { low = omega arith; some = omega arith; few = omega arith; inside = omega arith }
bounds_of floating payload s at c h (inr w, o) inside = record { low = omega arith; some = omega arith; few = omega arith; inside = omega arith }
bounds_of whole payload s at c h l inside = absurd (true≢false (sym h))
bounds_of undecoded payload s at c h l inside = absurd (true≢false (sym h))

width_of : (k : Kind) (c : Channel) → Legal k c → is_floating k ≡ true → (c.bit_count ≡ 64 → ⊥) → c.bit_count ≡ 32
width_of integer c l h other = absurd (true≢false (sym h))
width_of floating c (inl w, o) h other = w
width_of floating c (inr w, o) h other = absurd (other w)
width_of whole c l h other = absurd (true≢false (sym h))
width_of undecoded c l h other = absurd (true≢false (sym h))

-- a double's bits are a pattern of 64 bits
pattern_below : (count b x : ℕ) → b < 2 ^ 64 → (if eqb count 64 then answer b else fitting (narrows b) (narrowed b)) ≡ answer x → x < 2 ^ 64
pattern_below count b x l = go (eqb count 64)
  where
    narrow : (t : Bool) → narrows b ≡ t → fitting t (narrowed b) ≡ answer x → x < 2 ^ 64
    narrow true e h = let small : narrowed b < 2 ^ 32 = narrowed_lt b e in let i : narrowed b ≡ x = answered h in omega arith
    narrow false e h = not_answered x 24 0 h

    go : (t : Bool) → (if t then answer b else fitting (narrows b) (narrowed b)) ≡ answer x → x < 2 ^ 64
    go true e = let i : b ≡ x = answered e in omega arith
    go false e = narrow (narrows b) refl e

float_below : (number : numbers.Number) (count : ℕ) (v : Given) (x : ℕ) → Sized v → number_field number count v ≡ answer x → is_floating (number_kind number) ≡ true → x < 2 ^ 64
float_below numbers.TheVariants.Unsigned count v x h e f = absurd (true≢false (sym f))
float_below numbers.TheVariants.Signed count v x h e f = absurd (true≢false (sym f))
float_below numbers.TheVariants.Float count (given_unsigned n) x h e f = not_answered x 25 0 e
float_below numbers.TheVariants.Float count (given_signed z) x h e f = not_answered x 25 0 e
float_below numbers.TheVariants.Float count (given_double b) x h e f = pattern_below count b x h e
float_below numbers.TheVariants.Float count given_other x h e f = not_answered x 25 0 e

-- a number's field in the record
record Lies (s : List ℕ) (id_size : ℕ) (c : Channel) (number : numbers.Number) : Type 0 where
  pub old : Value
  pub valued : value_of s id_size c ≡ answer old
  pub bounds : FieldBounds s (start_of id_size c) c.bit_offset c.bit_count
  pub width : is_floating (number_kind number) ≡ true → (c.bit_count ≡ 64 → ⊥) → c.bit_count ≡ 32
  pub floats : is_floating (number_kind number) ≡ true → is_floating (kind_of c.data_type) ≡ true
  pub stands : (t : List ℕ) (n : ℕ) → decoded c.data_type t (start_of id_size c) n c ≡ number_value number c.bit_count (number_in (order_of c.data_type) t (start_of id_size c) c)
  pub bits : (v : Given) → type_field c.data_type c.bit_count v ≡ number_field number c.bit_count v

module _ (s : List ℕ) (id_size : ℕ) (c : Channel) (field : FieldStands s id_size c) where
  lies : (number : numbers.Number) (b : Bool) → form_of c.data_type ≡ Number number b → Lies s id_size c number
  lies number b ef =
      let k : Kind = kind_of c.data_type in
      let ek : number_kind number ≡ k = sym (ap form_kind ef) ∙ kind_form c.data_type in
      let is : is_number k ≡ true = ap is_number (sym ek) ∙ is_number_law number in
      let order : order_meant b ≡ order_of c.data_type = number_order c.data_type ef in
      let there = (value_exactly s id_size c).answers field in
      record {
        old = there.0;
        valued = there.1;
        bounds = bounds_of k (variable_length c) s (start_of id_size c) c is field.legal field.inside;
        width = λ f. width_of k c field.legal (ap is_floating (sym ek) ∙ f);
        floats = λ f. ap is_floating (sym ek) ∙ f;
        stands = λ t n. sym (value_form c.data_type t (start_of id_size c) n c) ∙ ap (λ (f : Form). form_value f t (start_of id_size c) n c) ef
            ∙ ap (λ (o : Order). number_value number c.bit_count (number_in o t (start_of id_size c) c)) order;
        bits = λ v. field_form c.data_type c.bit_count v ∙ ap (λ (f : Form). form_field f c.bit_count v) ef;
      }

  -- a number's type has a number's form
  by_form : {P : Type 0} → is_number (kind_of c.data_type) ≡ true → ((number : numbers.Number) → Lies s id_size c number → P) → P
  by_form {P} is on = go (form_of c.data_type) refl
    where
      go : (f : Form) → form_of c.data_type ≡ f → P
      go (Number number b) e = on number (lies number b e)
      go (Other content) e =
          let no_number : is_number (content_kind content) ≡ true = sym (ap (λ (f : Form). is_number (form_kind f)) e) ∙ ap is_number (kind_form c.data_type) ∙ is in
          absurd (true≢false (sym (ap (λ (b : Bool). b && true) no_number) ∙ other_number content true))

form_number : (t : DataType) (number : numbers.Number) (b : Bool) → form_of t ≡ Number number b → is_number (kind_of t) ≡ true
form_number t number b e = ap is_number (sym (kind_form t)) ∙ ap (λ (f : Form). is_number (form_kind f)) e ∙ is_number_law number

number_type : (t : DataType) (count : ℕ) (v : Given) (x : ℕ) → type_field t count v ≡ answer x → is_number (kind_of t) ≡ true
number_type t count v x e = go (form_of t) refl
  where
    go : (f : Form) → form_of t ≡ f → is_number (kind_of t) ≡ true
    go (Number number b) ef = form_number t number b ef
    go (Other content) ef = not_answered x 25 0 (sym (field_form t count v ∙ ap (λ (f : Form). form_field f count v) ef) ∙ e)

-- x stands in the channel's field of the record
record Laid (s : List ℕ) (id_size : ℕ) (c : Channel) (v : Given) (x : ℕ) : Type 0 where
  pub fixed : variable_length c ≡ false
  pub inside : start_of id_size c + bytes_for c.bit_offset c.bit_count ≤ length s
  pub below : x < 2 ^ c.bit_count
  pub decodes : DecodesTo (field_written s id_size c x) id_size c v

module _ (s : List ℕ) (id_size : ℕ) (c : Channel) (v : Given) (b : Bytes s) where
  laid : Sized v → Writable s id_size c v → (x : ℕ) → field_given s id_size c v ≡ answer x → Laid s id_size c v x
  laid sized can x e =
      let there = (value_exactly s id_size c).answers can.field in
      let made : type_field c.data_type c.bit_count v ≡ answer x = sym (fixed_given s id_size c v there.1 can.fixed) ∙ e in
      by_form s id_size c can.field (number_type c.data_type c.bit_count v x made)
      (λ number l.
      let of : number_field number c.bit_count v ≡ answer x = sym (l.bits v) ∙ made in
      let x-stands = stands c.bit_count x l.bounds.some number v (float_below number c.bit_count v x sized of) l.width of in
      let t : List ℕ = field_written s id_size c x in
      let o : Order = order_of c.data_type in
      let at : ℕ = start_of id_size c in
      let read : number_in o t at c ≡ x = reads_back o s at c.bit_offset c.bit_count x b l.bounds.inside x-stands.below in
      let value : value_of t id_size c ≡ answer (value_given v) =
      stands_alike s t id_size c (length_stored o s at c.bit_offset c.bit_count x) l.valued
      ∙ ap answer (l.stands t (span_of t c) ∙ ap (number_value number c.bit_count) read ∙ x-stands.value) in
      record {
        fixed = can.fixed;
        inside = l.bounds.inside;
        below = x-stands.below;
        decodes = record { value = value; double = sym (double_fixed t id_size c can.fixed) ∙ ap double_in value };
      })

  -- what was written is decoded
  pub written_decoded : Sized v → (value_written s id_size c v).reply ≡ answer tt → DecodesTo (value_written s id_size c v).buffer id_size c v
  written_decoded sized answer-is = go (value_ends s id_size c v)
    where
      refused : {n t : ℕ} → value_written s id_size c v ≡ record { reply = refusal n t; buffer = s } → DecodesTo (value_written s id_size c v).buffer id_size c v
      refused {n} {t} o = not_answered tt n t (sym (of_outcome o) ∙ answer-is)

      go : WrittenEnds s id_size c v (value_written s id_size c v) → DecodesTo (value_written s id_size c v).buffer id_size c v
      go (not_decoded n t e o) = refused o
      go (other_kind stand why o) = refused o
      go (does_not_fit stand fixed k no_field o) = refused o
      go (is_written can x e o) = subst (λ (t : Outcome (Unit {0})). DecodesTo t.buffer id_size c v) (sym o) (laid sized can x e).decodes

-- ---- what is kept

module _ (s t : List ℕ) (id_size : ℕ) (c : Channel) (bs : Bytes s) (bt : Bytes t) (long : length t ≡ length s)
    (kept : (p : ℕ) → ((k : ℕ) → Within c k → record_place id_size c k ≡ p → ⊥) → bit_there t p ≡ bit_there s p)
  where
    same_outside : SameOutside s t id_size c
    same_outside = record {
      long = long;
      bits = kept;
      others = λ d fixed number far. let value = same_value d fixed number far in
          (value, sym (double_fixed t id_size d fixed) ∙ ap double_in value ∙ double_fixed s id_size d fixed);
      validity = λ g d same far. let valid = one_bit t s g d (λ tells. same_bit g d same far) in (valid, bounded_alike t s g d long valid);
    }
      where
        same_value : (d : Channel) → variable_length d ≡ false → is_number (kind_of d.data_type) ≡ true → share_a_bit c d ≡ false → value_of t id_size d ≡ value_of s id_size d
        same_value d fixed number far =
            let o : Order = order_of d.data_type in
            let at : ℕ = id_size + d.byte_offset in
            let n : ℕ = bytes_for d.bit_offset d.bit_count in
            locality t s id_size d fixed number bt bs long
            (λ l lo hi.
            sym (there o t at n l)
            ∙ kept (place_of o at n l) (λ k w e. apart c d far k l w (lo, hi) (omega (arith, e)))
            ∙ there o s at n l)

        same_bit : (g : Group) (d : Channel) → g.id_size ≡ id_size → ((k : ℕ) → Within c k → bit_place c k ≡ g.data_bytes * 8 + d.invalidation_bit → ⊥)
            → bit (get_or t (g.id_size + g.data_bytes + d.invalidation_bit / 8) 0) (d.invalidation_bit % 8) ≡ bit (get_or s (g.id_size + g.data_bytes + d.invalidation_bit / 8) 0) (d.invalidation_bit % 8)
        same_bit g d same far =
            let p : ℕ = (g.id_size + g.data_bytes) * 8 + d.invalidation_bit in
            let byte : p / 8 ≡ g.id_size + g.data_bytes + d.invalidation_bit / 8 = omega arith in
            let low : p % 8 ≡ d.invalidation_bit % 8 = omega arith in
            let as_place : (u : List ℕ) → bit_there u p ≡ bit (get_or u (g.id_size + g.data_bytes + d.invalidation_bit / 8) 0) (d.invalidation_bit % 8) =
            λ u. ap₂ (λ (i j : ℕ). bit (get_or u i 0) j) byte low in
            sym (as_place t) ∙ kept p (λ k w e. far k w (omega (arith, e, same))) ∙ as_place s

module _ (s : List ℕ) (id_size : ℕ) (c : Channel) (v : Given) (b : Bytes s) (sized : Sized v) where
  -- whether it is written or refused
  pub outside_kept : SameOutside s (value_written s id_size c v).buffer id_size c
  outside_kept = go (value_ends s id_size c v)
    where
      o : Order
      o = order_of c.data_type

      at : ℕ
      at = start_of id_size c

      as_left : {o : Outcome (Unit {0})} → value_written s id_size c v ≡ o → SameOutside s o.buffer id_size c → SameOutside s (value_written s id_size c v).buffer id_size c
      as_left e h = subst (λ (o : Outcome (Unit {0})). SameOutside s o.buffer id_size c) (sym e) h

      unchanged : SameOutside s s id_size c
      unchanged = same_outside s s id_size c b b refl (λ p out. refl)

      laid_outside : Writable s id_size c v → (x : ℕ) → field_given s id_size c v ≡ answer x → SameOutside s (field_written s id_size c x) id_size c
      laid_outside can x e =
          let l = laid s id_size c v b sized can x e in
          let start : at ≡ id_size + c.byte_offset = ap (λ (t : Bool). if t then 0 else (id_size + c.byte_offset)) l.fixed in
          same_outside s (field_written s id_size c x) id_size c b
          (bytes_stored o s at c.bit_offset c.bit_count x b l.inside l.below)
          (length_stored o s at c.bit_offset c.bit_count x)
          (λ p out.
          untouched o s at c.bit_offset c.bit_count x b l.inside l.below p
          (λ k lo hi q. out k (lo, hi) (omega (arith, q, start))))

      go : WrittenEnds s id_size c v (value_written s id_size c v) → SameOutside s (value_written s id_size c v).buffer id_size c
      go (not_decoded n t e o) = as_left o unchanged
      go (other_kind stand why o) = as_left o unchanged
      go (does_not_fit stand fixed k no_field o) = as_left o unchanged
      go (is_written can x e o) = as_left o (laid_outside can x e)

-- ---- what was decoded, written over itself

-- what is no number's is decoded to no number
content_kind_law : (content : Content) (s : List ℕ) (at n : ℕ) → kind_in (content_value content s at n) ≡ 0
content_kind_law (Text e) s at n = refl
content_kind_law ByteArray s at n = refl
content_kind_law MimeSample s at n = refl
content_kind_law MimeStream s at n = refl
content_kind_law Undecoded s at n = refl

given_kind : (v : Given) → IsNumber v → kind_in (value_given v) ≡ 0 → ⊥
given_kind (given_unsigned n) h e = omega arith
given_kind (given_signed z) h e = omega arith
given_kind (given_double b) h e = omega arith
given_kind given_other h e = h

number_decoded : (t : DataType) (s : List ℕ) (at n : ℕ) (c : Channel) (v : Given) → IsNumber v → decoded t s at n c ≡ value_given v → is_number (kind_of t) ≡ true
number_decoded t s at n c v is e = go (form_of t) refl
  where
    go : (f : Form) → form_of t ≡ f → is_number (kind_of t) ≡ true
    go (Number number b) ef = form_number t number b ef
    go (Other content) ef =
        absurd (given_kind v is (sym (ap kind_in (value_form t s at n c ∙ e)) ∙ ap (λ (f : Form). kind_in (form_value f s at n c)) ef ∙ content_kind_law content s at n))

module _ (s : List ℕ) (id_size : ℕ) (c : Channel) (v : Given) (b : Bytes s) (fixed : variable_length c ≡ false) (is_number_law : IsNumber v) where
  pub decoded_written : value_of s id_size c ≡ answer (value_given v)
      → (is_floating (kind_of c.data_type) ≡ true → c.bit_count ≡ 32 → ComesBack (number_in (order_of c.data_type) s (start_of id_size c) c))
      → value_written s id_size c v ≡ record { reply = answer tt; buffer = s }
  decoded_written e comes =
      let stand : FieldStands s id_size c = (value_exactly s id_size c).only (value_given v) e in
      let here : decoded c.data_type s (start_of id_size c) (span_of s c) c ≡ value_given v = answered (sym (stands_alike s s id_size c refl e) ∙ e) in
      by_form s id_size c stand (number_decoded c.data_type s (start_of id_size c) (span_of s c) c v is_number_law here)
      (λ kind l.
      let o : Order = order_of c.data_type in
      let at : ℕ = start_of id_size c in
      let x : ℕ = number_in o s at c in
      let below : x < 2 ^ c.bit_count = field_below (number_of o (span s at (bytes_for c.bit_offset c.bit_count))) c.bit_offset c.bit_count in
      let value : number_value kind c.bit_count x ≡ value_given v = sym (l.stands s (span_of s c)) ∙ here in
      let made : number_field kind c.bit_count v ≡ answer x =
      made_again c.bit_count x l.bounds.some below kind v l.width (λ f. comes (l.floats f)) value in
      written s id_size c v (fixed_given s id_size c v e fixed ∙ l.bits v ∙ made)
      ∙ ap (λ (t : List ℕ). record { reply = answer tt; buffer = t }) (stored_same o s at c.bit_offset c.bit_count b l.bounds.inside))
