-- The same of the calls for C: the kind and the number that mf4_write_value was given are those that mf4_decode_value tells.
use Rattle.std.specs.Prelude.{if◌then◌else◌}
use mathlib.Core.Path.{◌≡◌, refl, sym, ap, ap₂, ◌∙◌, subst}
use mathlib.Core.Bool.{Bool, true, false}
use mathlib.Core.List.{List}
use Prim.Native.Nat.{ℕ, zero, suc, ◌+◌, ◌-◌, ◌*◌, ◌^◌, ◌≤◌, ◌<◌}
use native.Mathlib.Omega.{arith}
use contract.Lifetimes.{Lfts}
use lib.IntN.{pos, negsuc}
use lib.Dec.{ltb, eqb}
use borrow.Author.Tests.{ltb-false, eqb-true}
use Rattle.definitions.specs.Reply.{Outcome, answer, refusal}
use Rattle.definitions.specs.Bytes.{twos_complement}
use Rattle.definitions.specs.DataType.{DataType, unsigned_integer, signed_integer, float, complex, string, byte_array, mime_sample, mime_stream, can_open_date, can_open_time, unknown, kind_of, order_of}
use Rattle.definitions.specs.Channel.{variable_length, start_of, number_in, is_number, is_floating, value_of, double_in, record_double, valid_of, bounded_valid_of, bit_place}
use Rattle.definitions.specs.WrittenValue.{given_unsigned, given_signed, given_double, given_other, value_written}
use Rattle.definitions.specs.Overlap.{share_a_bit}
use Rattle.definitions.proofs.Shared.{Within}
use Rattle.words.proofs.Numbers.{Bytes}
use Rattle.doubles.proofs.NarrowedPatterns.{ComesBack}
use Rattle.encoder.specs.Meaning.{value_given}
use Rattle.block_replies.specs.Replies.{Returned, returned, returned_by}
use Rattle.replies.specs.Replies.{flag_c, done_c}
use Rattle.block_replies.specs.Channels.{channel_given}
use Rattle.replies.specs.Values.{validity_c, group_given, word_of, number_c, decoded_c, answer_c, value_c}
use Rattle.replies.specs.Stored.{given_by, number_given}
use Rattle.replies.proofs.ToldToC.{Reversible, value_again, of_kind_told}
use Rattle.block_replies.specs.declared.channel.Mf4Channel.{Mf4Channel}
use Rattle.replies.specs.declared.group.Mf4Group.{Mf4Group}
use Rattle.replies.specs.declared.values.Mf4ValueReply.{Mf4ValueReply}
use Rattle.replies.specs.declared.validity.Mf4ValidityReply.{Mf4ValidityReply}
use Rattle.replies.specs.declared.stored.Mf4Number.{Mf4Number}
use Rattle.replies.specs.declared.done.Mf4DoneReply.{Mf4DoneReply}
use Rattle.mf4.specs.Clauses.{Slice, Room}
use Rattle.theorems.specs.ClausesToC.{ReadsValueC, ChecksValidityC, ChecksUnboundedC, ReadsDoubleC, WritesValueC}
use Rattle.theorems.specs.Exactly.{ExactlyZero, Takes, Writable}
use Rattle.theorems.specs.WrittenValue.{WrittenEnds, IsNumber, Sized, DecodesTo, SameOutside}
use Rattle.theorems.proofs.Calls.Outcomes.{returned_buffer, returned_result}
use Rattle.theorems.proofs.Writing.WrittenEnds.{value_ends, written_exactly}
use Rattle.theorems.proofs.Writing.WrittenValues.{written_decoded, outside_kept, decoded_written}
use Rattle.theorems.proofs.Calls.ToldToC.{value_tellable, mf4_decode_value_told, mf4_write_value_told}
use Rattle.theorems.proofs.Calls.AnswersToC.{zero_exactly}

-- ---- what C gives, and what it is told

word_again : (n : ℕ) → n < 2 ^ 64 → word_of (twos_complement 64 n) ≡ n
word_again n l = go (ltb n (2 ^ 63)) refl
  where
    go : (t : Bool) → ltb n (2 ^ 63) ≡ t → word_of (if t then pos n else negsuc (2 ^ 64 - suc n)) ≡ n
    go true e = refl
    go false e = let high : 2 ^ 63 ≤ n = ltb-false n (2 ^ 63) e in omega arith

-- no field takes what is no number
none_taken : (t : DataType) (count : ℕ) → Takes t count given_other → ⊥
none_taken (unsigned_integer o) count h = h
none_taken (signed_integer o) count h = h
none_taken (float o) count h = h
none_taken (complex o) count h = h
none_taken (string e) count h = h
none_taken byte_array count h = h
none_taken mime_sample count h = h
none_taken mime_stream count h = h
none_taken can_open_date count h = h
none_taken can_open_time count h = h
none_taken (unknown code) count h = h

-- a number that is taken is shown as it was given
shown_again : (type : DataType) (count kind number : ℕ) → number < 2 ^ 64 → Takes type count (given_by kind number) → decoded_c (value_given (given_by kind number)) ≡ number_c kind number
shown_again type count kind number l = one (eqb kind 1) refl
  where
    three : (t : Bool) → eqb kind 3 ≡ t → Takes type count (if t then given_double number else given_other)
        → decoded_c (value_given (if t then given_double number else given_other)) ≡ number_c kind number
    three true e h = ap (λ (k : ℕ). number_c k number) (sym (eqb-true kind 3 e))
    three false e h = absurd (none_taken type count h)

    two : (t : Bool) → eqb kind 2 ≡ t → Takes type count (if t then given_signed (twos_complement 64 number) else if eqb kind 3 then given_double number else given_other)
        → decoded_c (value_given (if t then given_signed (twos_complement 64 number) else if eqb kind 3 then given_double number else given_other)) ≡ number_c kind number
    two true e h = ap₂ number_c (sym (eqb-true kind 2 e)) (word_again number l)
    two false e h = three (eqb kind 3) refl h

    one : (t : Bool) → eqb kind 1 ≡ t
        → Takes type count (if t then given_unsigned number else if eqb kind 2 then given_signed (twos_complement 64 number) else if eqb kind 3 then given_double number else given_other)
        → decoded_c (value_given (if t then given_unsigned number else if eqb kind 2 then given_signed (twos_complement 64 number) else if eqb kind 3 then given_double number else given_other))
        ≡ number_c kind number
    one true e h = ap (λ (k : ℕ). number_c k number) (sym (eqb-true kind 1 e))
    one false e h = two (eqb kind 2) refl h

-- and a number that is shown is given again
given_again : (kind number at n : ℕ) → 0 < kind → kind ≤ 3 → value_again kind number at n ≡ value_given (given_by kind number)
given_again zero number at n some few = absurd (omega arith)
given_again (suc zero) number at n some few = refl
given_again (suc (suc zero)) number at n some few = refl
given_again (suc (suc (suc zero))) number at n some few = refl
given_again (suc (suc (suc (suc k)))) number at n some few = absurd (omega arith)

given_number : (kind number : ℕ) → 0 < kind → kind ≤ 3 → IsNumber (given_by kind number)
given_number zero number some few = absurd (omega arith)
given_number (suc zero) number some few = tt
given_number (suc (suc zero)) number some few = tt
given_number (suc (suc (suc zero))) number some few = tt
given_number (suc (suc (suc (suc k)))) number some few = absurd (omega arith)

-- a number of 64 bits is the pattern of a double
number_sized : (kind number : ℕ) → number < 2 ^ 64 → Sized (given_by kind number)
number_sized kind number l = go (eqb kind 1) (eqb kind 2) (eqb kind 3)
  where
    go : (a b c : Bool) → Sized (if a then given_unsigned number else if b then given_signed (twos_complement 64 number) else if c then given_double number else given_other)
    go true b c = tt
    go false true c = tt
    go false false true = l
    go false false false = tt

-- ---- the call

module _ (κs : Lfts 1) (id_size : ℕ) (channel : Mf4Channel) (value : Mf4Number) (bytes : Room) (y : Mf4DoneReply) (after : List ℕ)
    (p : WritesValueC κs id_size channel value bytes y after)
  where
    same_buffer : after ≡ (value_written bytes.now id_size (channel_given channel) (number_given value)).buffer
    same_buffer = returned_buffer p

    pub value_write_zero : ExactlyZero (Writable bytes.now id_size (channel_given channel) (number_given value)) y.reply
    value_write_zero =
        zero_exactly y.reply y.told _ _ (mf4_write_value_told κs id_size channel value bytes y after p)
        (written_exactly bytes.now id_size (channel_given channel) (number_given value))

    replied : y.reply ≡ 0 → (value_written bytes.now id_size (channel_given channel) (number_given value)).reply ≡ answer tt
    replied e = ((written_exactly bytes.now id_size (channel_given channel) (number_given value)).answers (value_write_zero.only e)).1

    -- the way in which it ends: a refusal changes nothing
    pub mf4_write_value_ends : (o : Outcome (Unit {0})) × (WrittenEnds bytes.now id_size (channel_given channel) (number_given value) o × (y ≡ done_c o.reply) × (after ≡ o.buffer))
    mf4_write_value_ends = (
      value_written bytes.now id_size (channel_given channel) (number_given value),
      (value_ends bytes.now id_size (channel_given channel) (number_given value), returned_result p, same_buffer),
    )

    module _ (b : Bytes bytes.now) (sized : value.number < 2 ^ 64) where
      fits : Sized (number_given value)
      fits = number_sized value.kind value.number sized

      -- nothing changes outside the field
      pub value_write_keeps : SameOutside bytes.now after id_size (channel_given channel)
      value_write_keeps =
          subst (λ (t : List ℕ). SameOutside bytes.now t id_size (channel_given channel)) (sym same_buffer)
          (outside_kept bytes.now id_size (channel_given channel) (number_given value) b fits)

      -- so a fixed number that shares no bit with it keeps its value and its double
      module _ (d : Mf4Channel) (fixed : variable_length (channel_given d) ≡ false) (number : is_number (kind_of (channel_given d).data_type) ≡ true)
          (far : share_a_bit (channel_given channel) (channel_given d) ≡ false) (ρs σs : Lfts 1) (before written : Slice) (held : before.now ≡ bytes.now) (same : written.now ≡ after)
        where
          pub write_keeps_value : (z w : Mf4ValueReply) → ReadsValueC ρs before id_size d z → ReadsValueC σs written id_size d w → w ≡ z
          write_keeps_value z w q r =
              let value : List ℕ → Mf4ValueReply = λ t. value_c (value_of t id_size (channel_given d)) in
              r ∙ ap value same ∙ ap value_c (value_write_keeps.others (channel_given d) fixed number far).0 ∙ ap value (sym held) ∙ sym q

          pub write_keeps_double : (z w : ℕ) → ReadsDoubleC ρs before id_size d z → ReadsDoubleC σs written id_size d w → w ≡ z
          write_keeps_double z w q r =
              let double : List ℕ → ℕ = λ t. record_double t id_size (channel_given d) in
              r ∙ ap double same ∙ (value_write_keeps.others (channel_given d) fixed number far).1 ∙ ap double (sym held) ∙ sym q

      -- and a channel, this one or another, its validity, where the field has not its invalidation bit
      module _ (group : Mf4Group) (d : Mf4Channel) (skipped : (group_given group).id_size ≡ id_size)
          (far : (k : ℕ) → Within (channel_given channel) k → bit_place (channel_given channel) k ≡ (group_given group).data_bytes * 8 + (channel_given d).invalidation_bit → ⊥)
          (ρs σs : Lfts 1) (before written : Slice) (held : before.now ≡ bytes.now) (same : written.now ≡ after)
        where
          pub write_keeps_validity : (z w : Mf4ValidityReply) → ChecksValidityC ρs before group d z → ChecksValidityC σs written group d w → w ≡ z
          write_keeps_validity z w q r =
              let valid : List ℕ → Mf4ValidityReply = λ t. validity_c (bounded_valid_of t (group_given group) (channel_given d)) in
              r ∙ ap valid same ∙ ap validity_c (value_write_keeps.validity (group_given group) (channel_given d) skipped far).1 ∙ ap valid (sym held) ∙ sym q

          pub write_keeps_unbounded : (z w : ℕ) → ChecksUnboundedC ρs before group d z → ChecksUnboundedC σs written group d w → w ≡ z
          write_keeps_unbounded z w q r =
              let valid : List ℕ → ℕ = λ t. flag_c (valid_of t (group_given group) (channel_given d)) in
              r ∙ ap valid same ∙ ap flag_c (value_write_keeps.validity (group_given group) (channel_given d) skipped far).0 ∙ ap valid (sym held) ∙ sym q

      module _ (done : y.reply ≡ 0) where
        decodes : DecodesTo after id_size (channel_given channel) (number_given value)
        decodes =
            subst (λ (t : List ℕ). DecodesTo t id_size (channel_given channel) (number_given value)) (sym same_buffer)
            (written_decoded bytes.now id_size (channel_given channel) (number_given value) b fits (replied done))

        -- mf4_decode_value answers the kind and the number that were given
        pub write_then_decode : (ρs : Lfts 1) (written : Slice) (z : Mf4ValueReply) → written.now ≡ after → ReadsValueC ρs written id_size channel z
            → z ≡ answer_c (number_c value.kind value.number)
        write_then_decode ρs written z e q =
            q ∙ ap (λ (t : List ℕ). value_c (value_of t id_size (channel_given channel))) e ∙ ap value_c decodes.value
            ∙ ap answer_c (shown_again (channel_given channel).data_type (channel_given channel).bit_count value.kind value.number sized (value_write_zero.only done).takes)

        pub write_then_double : (ρs : Lfts 1) (written : Slice) (z : ℕ) → written.now ≡ after → ReadsDoubleC ρs written id_size channel z
            → z ≡ double_in (answer (value_given (number_given value)))
        write_then_double ρs written z e q = q ∙ ap (λ (t : List ℕ). record_double t id_size (channel_given channel)) e ∙ decodes.double

    -- what mf4_decode_value answered is written over itself
    pub decode_then_write : Bytes bytes.now → variable_length (channel_given channel) ≡ false
        → (is_floating (kind_of (channel_given channel).data_type) ≡ true → (channel_given channel).bit_count ≡ 32
        → ComesBack (number_in (order_of (channel_given channel).data_type) bytes.now (start_of id_size (channel_given channel)) (channel_given channel)))
        → (ρs : Lfts 1) (before : Slice) (z : Mf4ValueReply) → before.now ≡ bytes.now → ReadsValueC ρs before id_size channel z → z.reply ≡ 0 → 0 < z.kind
        → z.kind ≤ 3 → value.kind ≡ z.kind → value.number ≡ z.number → (y.reply ≡ 0) × (after ≡ bytes.now)
    decode_then_write b fixed comes ρs before z held q answered some few ek en =
        let told : value_of bytes.now id_size (channel_given channel) ≡ answer (value_again z.kind z.number z.at z.length) =
        ap (λ (t : List ℕ). value_of t id_size (channel_given channel)) (sym held)
        ∙ sym (of_kind_told Reversible z.reply z.told z.kind _ _ (value_tellable before.now id_size (channel_given channel)) (mf4_decode_value_told ρs before id_size channel z q))
        ∙ ap (λ (r : ℕ). if eqb r 0 then answer (value_again z.kind z.number z.at z.length) else refusal r z.told) answered in
        let is_number_law : IsNumber (number_given value) = subst (λ (k : ℕ). IsNumber (given_by k value.number)) (sym ek) (given_number z.kind value.number some few) in
        let same = decoded_written bytes.now id_size (channel_given channel) (number_given value) b fixed is_number_law
        (told ∙ ap answer (given_again z.kind z.number z.at z.length some few) ∙ ap₂ (λ (k n : ℕ). answer (value_given (given_by k n))) (sym ek) (sym en)) comes in
        let after_is : returned y after ≡ returned (done_c (answer tt)) bytes.now = p ∙ ap (returned_by done_c) same in
        (ap (λ (x : Returned Mf4DoneReply). x.result.reply) after_is, returned_buffer after_is)
