-- Numbers that are written, about the calls' own clauses: written and then decoded, and decoded and then written.
use mathlib.Core.Path.{◌≡◌, sym, ap, ◌∙◌, subst}
use mathlib.Core.Bool.{Bool, true, false}
use mathlib.Core.List.{List}
use Prim.Native.Nat.{ℕ, ◌+◌, ◌*◌}
use contract.Lifetimes.{Lfts}
use Rattle.std.specs.Prelude.{Result, Ok}
use Rattle.definitions.specs.Reply.{Reply, answer}
use Rattle.definitions.specs.DataType.{kind_of, order_of}
use Rattle.definitions.specs.Channel.{Value, variable_length, start_of, number_in, is_number, is_floating, value_of, double_in, record_double, valid_of, bounded_valid_of, bit_place}
use Rattle.definitions.specs.Overlap.{share_a_bit}
use Rattle.definitions.specs.WrittenValue.{value_written}
use Rattle.definitions.proofs.Shared.{Within}
use Rattle.refusals.specs.declared.Refusal.{Refusal}
use Rattle.words.proofs.Numbers.{Bytes}
use Rattle.doubles.proofs.NarrowedPatterns.{ComesBack}
use Rattle.fields.specs.Meaning.{channel_meant, group_meant, value_reply}
use Rattle.fields.specs.declared.channel.Channel.{Channel}
use Rattle.fields.specs.declared.group.Group.{Group}
use Rattle.fields.specs.declared.value.DecodedValue.{DecodedValue}
use Rattle.fields.proofs.Back.{value_one, validity_one}
use Rattle.encoder.specs.Meaning.{given_meant, value_given, written_reply, outcome}
use Rattle.encoder.specs.declared.number.NumberGiven.{NumberGiven}
use Rattle.encoder.proofs.Back.{written_one}
use Rattle.mf4.specs.Clauses.{Slice, Room}
use Rattle.theorems.specs.Clauses.{ReadsValue, ChecksValidity, ChecksBoundedValidity, ReadsDouble, WritesValue}
use Rattle.theorems.specs.Exactly.{Exactly, Writable}
use Rattle.theorems.specs.WrittenValue.{WrittenEnds, IsNumber, Sized, DecodesTo, SameOutside}
use Rattle.theorems.proofs.Calls.Outcomes.{of_buffer, of_outcome}
use Rattle.theorems.proofs.Writing.WrittenEnds.{value_ends, written_exactly}
use Rattle.theorems.proofs.Writing.WrittenValues.{written_decoded, outside_kept, decoded_written}
use Rattle.theorems.proofs.Calls.AnswersByCalls.{exactly}

module _ (κs : Lfts 1) (id_size : ℕ) (channel : Channel) (given : NumberGiven) (bytes : Room) (y : Result (Unit {0}) Refusal) (after : List ℕ)
    (p : WritesValue κs id_size channel given bytes y after)
  where
    same_buffer : after ≡ (value_written bytes.now id_size (channel_meant channel) (given_meant given)).buffer
    same_buffer = of_buffer p

    same_reply : (value_written bytes.now id_size (channel_meant channel) (given_meant given)).reply ≡ written_reply y
    same_reply = sym (of_outcome p)

    pub value_write_exactly : Exactly (Writable bytes.now id_size (channel_meant channel) (given_meant given)) (written_reply y)
    value_write_exactly = exactly (of_outcome p) (written_exactly bytes.now id_size (channel_meant channel) (given_meant given))

    -- the way in which it ends: a refusal changes nothing
    pub value_write_ends : WrittenEnds bytes.now id_size (channel_meant channel) (given_meant given) (outcome y after)
    value_write_ends =
        subst (WrittenEnds bytes.now id_size (channel_meant channel) (given_meant given)) (sym p) (value_ends bytes.now id_size (channel_meant channel) (given_meant given))

    module _ (b : Bytes bytes.now) (sized : Sized (given_meant given)) where
      -- and nothing changes outside the field
      pub value_write_keeps : SameOutside bytes.now after id_size (channel_meant channel)
      value_write_keeps =
          subst (λ (t : List ℕ). SameOutside bytes.now t id_size (channel_meant channel)) (sym same_buffer)
          (outside_kept bytes.now id_size (channel_meant channel) (given_meant given) b sized)

      -- so a fixed number that shares no bit with it keeps its value and its double
      module _ (d : Channel) (fixed : variable_length (channel_meant d) ≡ false) (number : is_number (kind_of (channel_meant d).data_type) ≡ true)
          (far : share_a_bit (channel_meant channel) (channel_meant d) ≡ false) (ρs σs : Lfts 1) (before written : Slice) (held : before.now ≡ bytes.now) (same : written.now ≡ after)
        where
          pub write_keeps_value : (z w : Result DecodedValue Refusal) → ReadsValue ρs before id_size d z → ReadsValue σs written id_size d w → w ≡ z
          write_keeps_value z w q r =
              let value : List ℕ → Reply Value = λ t. value_of t id_size (channel_meant d) in
              value_one w z (r ∙ ap value same ∙ (value_write_keeps.others (channel_meant d) fixed number far).0 ∙ ap value (sym held) ∙ sym q)

          pub write_keeps_double : (z w : ℕ) → ReadsDouble ρs before id_size d z → ReadsDouble σs written id_size d w → w ≡ z
          write_keeps_double z w q r =
              let double : List ℕ → ℕ = λ t. record_double t id_size (channel_meant d) in
              r ∙ ap double same ∙ (value_write_keeps.others (channel_meant d) fixed number far).1 ∙ ap double (sym held) ∙ sym q

      -- and a channel, this one or another, its validity, where the field has not its invalidation bit
      module _ (group : Group) (d : Channel) (skipped : (group_meant group).id_size ≡ id_size)
          (far : (k : ℕ) → Within (channel_meant channel) k → bit_place (channel_meant channel) k ≡ (group_meant group).data_bytes * 8 + (channel_meant d).invalidation_bit → ⊥)
          (ρs σs : Lfts 1) (before written : Slice) (held : before.now ≡ bytes.now) (same : written.now ≡ after)
        where
          pub write_keeps_validity : (z w : Bool) → ChecksValidity ρs before group d z → ChecksValidity σs written group d w → w ≡ z
          write_keeps_validity z w q r =
              let valid : List ℕ → Bool = λ t. valid_of t (group_meant group) (channel_meant d) in
              r ∙ ap valid same ∙ (value_write_keeps.validity (group_meant group) (channel_meant d) skipped far).0 ∙ ap valid (sym held) ∙ sym q

          pub write_keeps_bounded_validity : (z w : Result Bool Refusal) → ChecksBoundedValidity ρs before group d z → ChecksBoundedValidity σs written group d w → w ≡ z
          write_keeps_bounded_validity z w q r =
              let valid : List ℕ → Reply Bool = λ t. bounded_valid_of t (group_meant group) (channel_meant d) in
              validity_one w z
              (r ∙ ap valid same ∙ (value_write_keeps.validity (group_meant group) (channel_meant d) skipped far).1 ∙ ap valid (sym held) ∙ sym q)

      module _ (done : y ≡ Ok tt) where
        decodes : DecodesTo after id_size (channel_meant channel) (given_meant given)
        decodes =
            subst (λ (t : List ℕ). DecodesTo t id_size (channel_meant channel) (given_meant given)) (sym same_buffer)
            (written_decoded bytes.now id_size (channel_meant channel) (given_meant given) b sized (same_reply ∙ ap written_reply done))

        -- what was written is decoded, and its double
        pub write_then_decode : (ρs : Lfts 1) (written : Slice) (z : Result DecodedValue Refusal) → written.now ≡ after → ReadsValue ρs written id_size channel z
            → value_reply z ≡ answer (value_given (given_meant given))
        write_then_decode ρs written z e q = q ∙ ap (λ (t : List ℕ). value_of t id_size (channel_meant channel)) e ∙ decodes.value

        pub write_then_double : (ρs : Lfts 1) (written : Slice) (z : ℕ) → written.now ≡ after → ReadsDouble ρs written id_size channel z
            → z ≡ double_in (answer (value_given (given_meant given)))
        write_then_double ρs written z e q = q ∙ ap (λ (t : List ℕ). record_double t id_size (channel_meant channel)) e ∙ decodes.double

    -- what was decoded is written over itself
    pub decode_then_write : Bytes bytes.now → variable_length (channel_meant channel) ≡ false → IsNumber (given_meant given)
        → (is_floating (kind_of (channel_meant channel).data_type) ≡ true → (channel_meant channel).bit_count ≡ 32
        → ComesBack (number_in (order_of (channel_meant channel).data_type) bytes.now (start_of id_size (channel_meant channel)) (channel_meant channel)))
        → (ρs : Lfts 1) (before : Slice) (z : Result DecodedValue Refusal) → before.now ≡ bytes.now → ReadsValue ρs before id_size channel z
        → value_reply z ≡ answer (value_given (given_meant given)) → (y ≡ Ok tt) × (after ≡ bytes.now)
    decode_then_write b fixed number comes ρs before z held q e =
        let decoded : value_of bytes.now id_size (channel_meant channel) ≡ answer (value_given (given_meant given)) =
        ap (λ (t : List ℕ). value_of t id_size (channel_meant channel)) (sym held) ∙ sym q ∙ e in
        let same = decoded_written bytes.now id_size (channel_meant channel) (given_meant given) b fixed number decoded comes in
        (written_one y (Ok tt) (of_outcome (p ∙ same)), same_buffer ∙ of_buffer same)
