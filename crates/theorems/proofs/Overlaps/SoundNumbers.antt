-- The entries of a list that can be searched are just the numbers in the record itself that decode in every record which is long
-- enough: those that pass 18, 19, 20 and 22.
use mathlib.Core.Path.{◌≡◌, refl, sym}
use mathlib.Core.Bool.{true, false, true≢false, ◌||◌}
use mathlib.Core.Logic.{◌⊎◌, ⊎_elim}
use mathlib.Core.List.{List}
use Prim.Native.Nat.{ℕ, ◌+◌, ◌≤◌, ◌<◌}
use native.Mathlib.Omega.{arith}
use lib.Dec.{eqb}
use lib.ListN.{length}
use borrow.Author.Tests.{le-ltb, ltb-false, eqb-false, ne_eqb}
use Rattle.definitions.specs.Reply.{answer}
use Rattle.definitions.specs.DataType.{Kind, integer, floating, whole, undecoded, kind_of}
use Rattle.definitions.specs.Channel.{Channel, Value, variable_length, is_number, bit_span, value_of, is_sound_number}
use Rattle.fields.proofs.Tests.{float_width}
use Rattle.fields.proofs.Locality.{number_span}
use Rattle.overlaps.proofs.Entries.{over_word, no_width, by_tests, each_passed}
use Rattle.theorems.specs.Exactly.{Legal}
use Rattle.theorems.proofs.Calls.Answers.{value_exactly}

pub record SoundNumber (c : Channel) : Type 0 where
  pub number : is_number (kind_of c.data_type) ≡ true
  pub in_record : variable_length c ≡ false
  pub legal : Legal (kind_of c.data_type) c

-- ---- the tests of a kind

module _ (c : Channel) where
  some_bits : eqb c.bit_count 0 ≡ false → 0 < c.bit_count
  some_bits e = let some : c.bit_count ≡ 0 → ⊥ = eqb-false _ _ e in omega arith

  legal_by : (k : Kind) → is_number k ≡ true → eqb c.bit_count 0 ≡ false → c.bit_offset ≤ 7 → over_word k c ≡ false → no_width k c ≡ false → Legal k c
  legal_by integer n z l w x = (some_bits z, ltb-false _ _ w, l)
  legal_by floating n z l w x = (float_width c.bit_count x, l)
  legal_by whole n z l w x = absurd (true≢false (sym n))
  legal_by undecoded n z l w x = absurd (true≢false (sym n))

  width_passes : (c.bit_count ≡ 32) ⊎ (c.bit_count ≡ 64) → (eqb c.bit_count 0 ≡ false) × (eqb c.bit_count 32 || eqb c.bit_count 64 ≡ true)
  width_passes h = ⊎_elim (λ e. rw e (refl, refl)) (λ e. rw e (refl, refl)) h

  passes : (k : Kind) → kind_of c.data_type ≡ k → is_number k ≡ true → variable_length c ≡ false → Legal k c → is_sound_number c ≡ true
  passes integer e n f (some, few, low) =
      let nonzero : c.bit_count ≡ 0 → ⊥ = λ z. omega arith in
      by_tests c e n f (rw (ne_eqb _ _ nonzero, le-ltb _ _ low, le-ltb _ _ few))
  passes floating e n f (width, low) = let w = width_passes width in by_tests c e n f (rw (w.0, le-ltb _ _ low, w.1))
  passes whole e n f l = absurd (true≢false (sym n))
  passes undecoded e n f l = absurd (true≢false (sym n))

  -- ---- exactly the sound numbers

  pub sound_number : is_sound_number c ≡ true → SoundNumber c
  sound_number e =
      let (n, f, z, l, w, x) = each_passed c e in
      record { number = n; in_record = f; legal = legal_by (kind_of c.data_type) n z (ltb-false _ _ l) w x }

  pub number_sound : SoundNumber c → is_sound_number c ≡ true
  number_sound f = passes (kind_of c.data_type) refl f.number f.in_record f.legal

  -- ---- which decode

  module _ (s : List ℕ) (id_size : ℕ) where
    pub sound_decodes : is_sound_number c ≡ true → id_size + c.byte_offset + bit_span c ≤ length s → (v : Value) × (value_of s id_size c ≡ answer v)
    sound_decodes e long =
        let f = sound_number e in
        (value_exactly s id_size c).answers
        (record { legal = f.legal; inside = rw (f.in_record, number_span (kind_of c.data_type) false (length s) c f.number) long })

    pub decodes_sound : is_number (kind_of c.data_type) ≡ true → variable_length c ≡ false → (v : Value) → value_of s id_size c ≡ answer v → is_sound_number c ≡ true
    decodes_sound number in_record v e = number_sound (record { number = number; in_record = in_record; legal = ((value_exactly s id_size c).only v e).legal })
