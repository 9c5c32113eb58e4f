-- The writing of a number ends in one of four ways: so it answers exactly where it may, refuses with 25 and 24 exactly where the
-- rules say, and with 18 to 22 exactly as decoding does; and a refusal changes nothing.
use mathlib.Core.Path.{◌≡◌, refl, sym, ap, ◌∙◌, subst}
use mathlib.Core.Logic.{◌⊎◌, inl, inr}
use mathlib.Core.Bool.{Bool, true, false, ◌&&◌, ◌||◌, true≢false}
use mathlib.Core.List.{List}
use Prim.Native.Nat.{ℕ, suc, ◌-◌, ◌^◌}
use lib.IntN.{pos, negsuc}
use lib.Dec.{ltb, leb, eqb}
use borrow.Author.Tests.{lt-ltb, ltb-true, eq-eqb, eqb-true, eqb-false}
use Rattle.definitions.specs.Reply.{Reply, Outcome, answer, refusal}
use Rattle.definitions.specs.Ieee754.{narrowed, narrows}
use Rattle.definitions.specs.DataType.{DataType, unsigned_integer, signed_integer, float, complex, string, byte_array, mime_sample, mime_stream, can_open_date, can_open_time, unknown}
use Rattle.definitions.specs.Channel.{Channel, Value, variable_length, value_of}
use Rattle.definitions.specs.WrittenValue.{Given, given_unsigned, given_signed, given_double, given_other, fitting, type_field, field_given, field_written, value_written}
use Rattle.definitions.proofs.Replies.{not_answered, both}
use Rattle.encoder.proofs.Choosing.{value_refused, payload_given, fixed_given}
use Rattle.theorems.specs.Exactly.{Exactly, FieldStands, Takes, Writable}
use Rattle.theorems.specs.WrittenValue.{of_kind, WrittenEnds, not_decoded, other_kind, does_not_fit, is_written}
use Rattle.theorems.proofs.Calls.Outcomes.{of_buffer}
use Rattle.theorems.proofs.Calls.Answers.{value_exactly}
use Rattle.theorems.proofs.Calls.RefusalNumbers.{Numbered, OfFields, of_answer, of_refusal, value_numbered}

-- ---- the bits of a number

-- of another kind; not in the field's range; or in it
data Made (t : DataType) (count : ℕ) (v : Given) : Type 0 where
  of_other_kind : of_kind t v ≡ false → (Takes t count v → ⊥) → type_field t count v ≡ refusal 25 0 → Made t count v
  too_wide : of_kind t v ≡ true → (Takes t count v → ⊥) → type_field t count v ≡ refusal 24 0 → Made t count v
  fits : (x : ℕ) → of_kind t v ≡ true → Takes t count v → type_field t count v ≡ answer x → Made t count v

by_test : {t : DataType} {count : ℕ} {v : Given} (test : Bool) (x : ℕ) → of_kind t v ≡ true → (test ≡ true → Takes t count v) → (Takes t count v → test ≡ true)
    → type_field t count v ≡ fitting test x → Made t count v
by_test true x k to from e = fits x k (to refl) e
by_test false x k to from e = too_wide k (λ h. true≢false (sym (from h))) e

made : (t : DataType) (count : ℕ) (v : Given) → Made t count v
made (unsigned_integer o) count (given_unsigned n) = by_test (ltb n (2 ^ count)) n refl (ltb-true n (2 ^ count)) (lt-ltb n (2 ^ count)) refl
made (unsigned_integer o) count (given_signed z) = of_other_kind refl (λ h. h) refl
made (unsigned_integer o) count (given_double b) = of_other_kind refl (λ h. h) refl
made (unsigned_integer o) count given_other = of_other_kind refl (λ h. h) refl
made (signed_integer o) count (given_unsigned n) = of_other_kind refl (λ h. h) refl
made (signed_integer o) count (given_signed (pos n)) =
    by_test (ltb n (2 ^ (count - 1))) n refl (ltb-true n (2 ^ (count - 1))) (lt-ltb n (2 ^ (count - 1))) refl
made (signed_integer o) count (given_signed (negsuc k)) =
    by_test (ltb k (2 ^ (count - 1))) (2 ^ count - suc k) refl (ltb-true k (2 ^ (count - 1))) (lt-ltb k (2 ^ (count - 1))) refl
made (signed_integer o) count (given_double b) = of_other_kind refl (λ h. h) refl
made (signed_integer o) count given_other = of_other_kind refl (λ h. h) refl
made (float o) count (given_unsigned n) = of_other_kind refl (λ h. h) refl
made (float o) count (given_signed z) = of_other_kind refl (λ h. h) refl
made (float o) count (given_double b) = go (eqb count 64) refl
  where
    narrow : eqb count 64 ≡ false → Takes (float o) count (given_double b) → narrows b ≡ true
    narrow e (inl w) = absurd (eqb-false count 64 e w)
    narrow e (inr w) = eq-eqb _ _ w

    go : (t : Bool) → eqb count 64 ≡ t → Made (float o) count (given_double b)
    go true e = fits b refl (inl (eqb-true count 64 e)) (rw e)
    go false e = by_test (narrows b) (narrowed b) refl (λ h. inr (eqb-true _ _ h)) (narrow e) (rw e)
made (float o) count given_other = of_other_kind refl (λ h. h) refl
made (complex o) count v = of_other_kind refl (λ h. h) refl
made (string e) count v = of_other_kind refl (λ h. h) refl
made byte_array count v = of_other_kind refl (λ h. h) refl
made mime_sample count v = of_other_kind refl (λ h. h) refl
made mime_stream count v = of_other_kind refl (λ h. h) refl
made can_open_date count v = of_other_kind refl (λ h. h) refl
made can_open_time count v = of_other_kind refl (λ h. h) refl
made (unknown code) count v = of_other_kind refl (λ h. h) refl

-- ---- the call

-- it is refused as a field is, or with 24 or 25
abbrev pub OfWriting : ℕ → ℕ → Type 0
OfWriting n t = leb 18 n && (leb n 22 || (leb 24 n && leb n 25)) ≡ true

module _ (s : List ℕ) (id_size : ℕ) (c : Channel) (v : Given) where
  abbrev Ends : Outcome (Unit {0}) → Type 0
  Ends = WrittenEnds s id_size c v

  pub written : {x : ℕ} → field_given s id_size c v ≡ answer x → value_written s id_size c v ≡ record { reply = answer tt; buffer = field_written s id_size c x }
  unfolding value_written
  written e = rw e

  left : {n t : ℕ} → field_given s id_size c v ≡ refusal n t → value_written s id_size c v ≡ record { reply = refusal n t; buffer = s }
  unfolding value_written
  left e = rw e

  fixed_ends : {old : Value} → value_of s id_size c ≡ answer old → FieldStands s id_size c → variable_length c ≡ false → Ends (value_written s id_size c v)
  fixed_ends {old} e stands fixed = go (made c.data_type c.bit_count v)
    where
      bits : field_given s id_size c v ≡ type_field c.data_type c.bit_count v
      bits = fixed_given s id_size c v e fixed

      go : Made c.data_type c.bit_count v → Ends (value_written s id_size c v)
      go (of_other_kind k no_field m) = other_kind stands (inr k) (left (bits ∙ m))
      go (too_wide k no_field m) = does_not_fit stands fixed k no_field (left (bits ∙ m))
      go (fits x k takes m) = is_written (record { field = stands; fixed = fixed; takes = takes }) x (bits ∙ m) (written (bits ∙ m))

  pub value_ends : WrittenEnds s id_size c v (value_written s id_size c v)
  value_ends = go (value_of s id_size c) refl
    where
      on : {old : Value} (payload : Bool) → variable_length c ≡ payload → value_of s id_size c ≡ answer old → FieldStands s id_size c → Ends (value_written s id_size c v)
      on true p e stands = other_kind stands (inl p) (left (payload_given s id_size c v e p))
      on false p e stands = fixed_ends e stands p

      go : (r : Reply Value) → value_of s id_size c ≡ r → Ends (value_written s id_size c v)
      go (answer old) e = on (variable_length c) refl e ((value_exactly s id_size c).only old e)
      go (refusal n t) e = not_decoded n t e (left (value_refused s id_size c v e))

  -- ---- what follows

  abbrev replied : Outcome (Unit {0}) → Reply (Unit {0})
  replied o = o.reply

  pub written_exactly : Exactly (Writable s id_size c v) (value_written s id_size c v).reply
  written_exactly = go value_ends
    where
      go : Ends (value_written s id_size c v) → Exactly (Writable s id_size c v) (value_written s id_size c v).reply
      go (not_decoded n t e o) = record {
        answers = λ h. let a = (value_exactly s id_size c).answers h.field in not_answered a.0 n t (sym e ∙ a.1);
        only = λ a q. not_answered a n t (sym (ap replied o) ∙ q);
      }
      go (other_kind stands why o) = record {
        answers = λ h. absurd (no_other h why);
        only = λ a q. not_answered a 25 0 (sym (ap replied o) ∙ q);
      }
        where
          takes_kind : Takes c.data_type c.bit_count v → of_kind c.data_type v ≡ false → ⊥
          takes_kind h k = kinds (made c.data_type c.bit_count v)
            where
              kinds : Made c.data_type c.bit_count v → ⊥
              kinds (of_other_kind q no_field m) = no_field h
              kinds (too_wide q no_field m) = no_field h
              kinds (fits x q takes m) = true≢false (sym q ∙ k)

          no_other : Writable s id_size c v → (variable_length c ≡ true) ⊎ (of_kind c.data_type v ≡ false) → ⊥
          no_other h (inl p) = true≢false (sym p ∙ h.fixed)
          no_other h (inr k) = takes_kind h.takes k
      go (does_not_fit stands fixed k no_field o) = record {
        answers = λ h. absurd (no_field h.takes);
        only = λ a q. not_answered a 24 0 (sym (ap replied o) ∙ q);
      }
      go (is_written can x e o) = record { answers = λ h. (tt, ap replied o); only = λ a q. can }

  -- a refusal changes nothing
  pub refused_kept : (n t : ℕ) → (value_written s id_size c v).reply ≡ refusal n t → (value_written s id_size c v).buffer ≡ s
  refused_kept n t q = go value_ends
    where
      kept : {r : Reply (Unit {0})} → value_written s id_size c v ≡ record { reply = r; buffer = s } → (value_written s id_size c v).buffer ≡ s
      kept e = of_buffer e

      go : Ends (value_written s id_size c v) → (value_written s id_size c v).buffer ≡ s
      go (not_decoded m u e o) = kept o
      go (other_kind stands why o) = kept o
      go (does_not_fit stands fixed k no_field o) = kept o
      go (is_written can x e o) = not_answered tt n t (sym q ∙ ap replied o)

  pub value_written_numbered : Numbered OfWriting (value_written s id_size c v).reply
  value_written_numbered = go value_ends
    where
      fields_too : (n t : ℕ) → OfFields n t → OfWriting n t
      fields_too n t h = let p = both (leb 18 n) (leb n 22) h in rw (p.0, p.1)

      as_replied : {r : Reply (Unit {0})} {b : List ℕ} → value_written s id_size c v ≡ record { reply = r; buffer = b } → Numbered OfWriting r
          → Numbered OfWriting (value_written s id_size c v).reply
      as_replied o h = subst (Numbered OfWriting) (sym (ap replied o)) h

      go : Ends (value_written s id_size c v) → Numbered OfWriting (value_written s id_size c v).reply
      go (not_decoded n t e o) = as_replied o (of_refusal OfWriting n t (fields_too n t (value_numbered s id_size c n t e)))
      go (other_kind stands why o) = as_replied o (of_refusal OfWriting 25 0 refl)
      go (does_not_fit stands fixed k no_field o) = as_replied o (of_refusal OfWriting 24 0 refl)
      go (is_written can x e o) = as_replied o (of_answer OfWriting tt)
