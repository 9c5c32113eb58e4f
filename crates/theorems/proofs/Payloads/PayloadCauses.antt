-- When the payload that a record tells is refused, exactly.
use mathlib.Core.Path.{◌≡◌, refl, sym, ap, ◌∙◌, subst}
use mathlib.Core.Bool.{not}
use mathlib.Core.List.{List}
use Prim.Native.Nat.{ℕ, ◌+◌}
use lib.ListN.{length, take}
use lib.Dec.{ltb}
use borrow.Author.Tests.{not-false}
use Rattle.std.specs.Bool.{Decides}
use Rattle.std.proofs.lemmas.Bool.Decides.{Decides-ltb, Decides-and, Decides-not}
use Rattle.definitions.specs.Reply.{Reply, Outcome, answer, refusal, and_then, writing}
use Rattle.definitions.specs.Bytes.{u32_at}
use Rattle.definitions.specs.DataType.{kind_of}
use Rattle.definitions.specs.Channel.{Channel, Group, is_number, value_of}
use Rattle.definitions.specs.Chain.{joined, chain_of, fetched}
use Rattle.definitions.specs.Payload.{id_sd, holds_position, position_of, payload_at, joined_of, payload_of, stored, PayloadValue, Outcomes, payload_value_of, payload_behind, payload_fetched}
use Rattle.definitions.proofs.Replies.{answered}
use Rattle.places.proofs.Answers.{passed, followed}
use Rattle.theorems.specs.Exactly.{Positioned}
use Rattle.theorems.specs.Causes.{Not}
use Rattle.theorems.specs.Refused.{Cause, refused, ◌or_else◌, RefusedExactly}
use Rattle.theorems.specs.BlockCauses.{no_room}
use Rattle.theorems.specs.ChainCauses.{chain_refused}
use Rattle.theorems.specs.RecordCauses.{record_refused, of_record, position_in, payload_refused, of_payload, TooFewBytes, payload_value_refused, record_payload_refused}
use Rattle.theorems.proofs.Chains.ChainCauses.{chain_refused_law}
use Rattle.theorems.proofs.Records.RecordCauses.{tests_joined, in_record}
use Rattle.theorems.proofs.Blocks.BlockCauses.{room_refused}
use Rattle.theorems.proofs.Payloads.PayloadEnds.{positioned, held, payload_replied}
use Rattle.theorems.proofs.Calls.TestsInTurn.{tests_true, as_is, tested, tested_else, last_tested, going_on, made_of, chosen}

pub joined_refused : (id f : List ℕ) (start : ℕ) → RefusedExactly (chain_refused id f start) (joined_of id f start)
unfolding joined_of
joined_refused id f start = made_of (joined f) (chain_of id f start) (chain_refused_law id f start)

module _ (f s : List ℕ) (id_size : ℕ) (c : Channel) where
  abbrev at : ℕ
  at = position_in s id_size c

  position_is : (p : ℕ) → position_of s id_size c ≡ answer p → p ≡ at
  unfolding position_of
  position_is p e = sym (answered (passed (ltb (length s) (id_size + c.byte_offset + 8)) 21 _ _ p e).1)

  pub payload_refused_law : RefusedExactly (payload_refused f s id_size c) (payload_of (joined_of id_sd f c.data_link) s id_size c)
  unfolding payload_of position_of joined_of payload_at
  payload_refused_law =
      let found : ℕ → Reply (List ℕ) = λ p. and_then (joined_of id_sd f c.data_link) (λ bytes. payload_at bytes p) in
      going_on (position_of s id_size c) found (last_tested (ltb (length s) (id_size + c.byte_offset + 8)) 21 _ at (Decides-ltb (length s) (id_size + c.byte_offset + 8)))
      (λ p e. as_is (ap found (position_is p e))
      (going_on (joined_of id_sd f c.data_link) (λ bytes. payload_at bytes at) (joined_refused id_sd f c.data_link)
      (λ bytes q. let chain = followed (chain_of id_sd f c.data_link) (λ bs. answer (joined f bs)) bytes q in
      as_is (ap (λ (x : List ℕ). payload_at x at) (sym (answered chain.2)))
      (tested _ 23 0 _ (tests_joined id_sd f c.data_link _ (λ j. ltb (length j) (at + 4)) (λ j. Decides-ltb (length j) (at + 4)) chain.0 chain.1)
      (last_tested _ 23 0 _ (tests_joined id_sd f c.data_link _ (λ j. ltb (length j) (at + 4 + u32_at j at)) (λ j. Decides-ltb (length j) (at + 4 + u32_at j at)) chain.0 chain.1))))))

-- ---- the call

tests_position : (c : Channel) → Decides (not (holds_position c)) (Not (Positioned c))
tests_position c = Decides-not (holds_position c) ((positioned c, held c))

module _ (f : List ℕ) (g : Group) (c : Channel) (room : List ℕ) (p : Positioned c) where
  -- of a payload alone only 21 is left
  value_refused : (s payload : List ℕ) → RefusedExactly (refused 21 8 (TooFewBytes c payload)) (payload_value_of s g c payload)
  unfolding payload_value_of
  value_refused s payload =
      made_of _ (value_of payload g.id_size c)
      (as_is (payload_replied payload g.id_size c p)
      (last_tested _ 21 8 _ (Decides-and (is_number (kind_of c.data_type)) (ltb (length payload) 8) (tests_true _) (Decides-ltb (length payload) 8))))

  -- into the buffer, and then its value
  abbrev stored_value : List ℕ → List ℕ → Reply PayloadValue
  stored_value s payload = and_then (writing room payload payload).reply (payload_value_of s g c)

  abbrev stored_cause : List ℕ → Cause
  stored_cause payload = no_room room (length payload) or_else refused 21 8 (TooFewBytes c payload)

  written : (payload bytes : List ℕ) → (writing room payload payload).reply ≡ answer bytes → bytes ≡ payload
  written payload bytes e =
      let short = ltb (length room) (length payload) in
      sym (answered (passed short 6 _ _ bytes (sym (chosen (λ (o : Outcome (List ℕ)). o.reply) short _ _) ∙ e)).1)

  stored_refused : (s payload : List ℕ) → RefusedExactly (stored_cause payload) (stored_value s payload)
  stored_refused s payload =
      going_on (writing room payload payload).reply (payload_value_of s g c) (room_refused room (length payload) payload payload refl)
      (λ bytes e. as_is (ap (payload_value_of s g c) (written payload bytes e)) (value_refused s payload))

  -- the payload that the record s tells, into the buffer, and then its value
  abbrev told_in : List ℕ → Reply (List ℕ)
  told_in s = payload_of (joined_of id_sd f c.data_link) s g.id_size c

  abbrev value_in : List ℕ → Reply PayloadValue
  value_in s = and_then (stored (told_in s) room).reply (payload_value_of s g c)

  stored_then : (s : List ℕ) (r : Reply (List ℕ)) → and_then (stored r room).reply (payload_value_of s g c) ≡ and_then r (stored_value s)
  stored_then s (answer payload) = refl
  stored_then s (refusal n t) = refl

  found_refused : (s : List ℕ) → RefusedExactly (payload_value_refused f s g.id_size c room) (value_in s)
  unfolding of_payload
  found_refused s =
      as_is (stored_then s (told_in s))
      (going_on (told_in s) (stored_value s) (payload_refused_law f s g.id_size c)
      (λ payload e. record {
        given = λ n t x. (stored_refused s payload).given n t (subst (λ (b : List ℕ). stored_cause b n t) (answered (sym x.1.0 ∙ e)) x.1.1);
        only = λ n t q. (payload, (e, (stored_refused s payload).only n t q));
      }))

  -- behind the fetch of a record
  fetch_then : (s : List ℕ) (r : Reply (Unit {0})) → and_then (stored (and_then r (λ u. told_in s)) room).reply (payload_value_of s g c) ≡ and_then r (λ u. value_in s)
  fetch_then s (answer u) = refl
  fetch_then s (refusal n t) = refl

  behind_refused : (start k size : ℕ) (out : List ℕ)
      → RefusedExactly (record_refused f start k size out or_else of_record f start k size out (λ s. payload_value_refused f s g.id_size c room))
      (payload_behind (joined_of id_sd f c.data_link) size g c (fetched f start k size out) room).reply
  behind_refused start k size out =
      as_is (fetch_then (take size (fetched f start k size out).buffer) (fetched f start k size out).reply)
      (in_record f start k size out _ value_in found_refused)

pub payload_fetched_refused : (f : List ℕ) (start k size : ℕ) (g : Group) (c : Channel) (out room : List ℕ)
    → RefusedExactly (record_payload_refused f start k size out g.id_size c room) (payload_fetched f start k size g c out room).reply
unfolding payload_fetched
payload_fetched_refused f start k size g c out room =
    as_is (chosen (λ (o : Outcomes PayloadValue). o.reply) (not (holds_position c)) _ _)
    (tested_else (not (holds_position c)) 35 0 _ (tests_position c)
    (λ holds. behind_refused f g c room (positioned c (not-false _ holds)) start k size out))
