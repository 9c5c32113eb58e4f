-- When the length of the joined data is refused, and a record of it, exactly.
use mathlib.Core.Path.{◌≡◌, sym, ap, ◌∙◌, subst}
use mathlib.Core.Logic.{inl, inr, ⊎_elim}
use mathlib.Core.Bool.{Bool, ◌||◌}
use mathlib.Core.List.{List}
use Prim.Native.Nat.{ℕ, ◌+◌, ◌*◌}
use lib.ListN.{length, take, drop}
use lib.Dec.{ltb, eqb}
use Rattle.std.specs.Bool.{Decides}
use Rattle.std.proofs.lemmas.Bool.Decides.{Decides-ltb, Decides-eqb, Decides-or}
use Rattle.definitions.specs.Reply.{Reply, Outcome, answer, and_then}
use Rattle.definitions.specs.Bytes.{span}
use Rattle.definitions.specs.Channel.{Channel, Group, bounded_value_of}
use Rattle.definitions.specs.Chain.{Block, id_dt, file_limit, record_limit, total, joined, chain_of, total_of, data_length, bad_size, record_of, fetched, value_fetched}
use Rattle.definitions.proofs.Replies.{answered}
use Rattle.words.proofs.Spans.{length_span}
use Rattle.theorems.specs.Exactly.{Fetchable, record_bytes}
use Rattle.theorems.specs.Causes.{bounded_refused}
use Rattle.theorems.specs.Refused.{Cause, ◌or_else◌, RefusedExactly}
use Rattle.theorems.specs.ChainCauses.{chain_refused}
use Rattle.theorems.specs.RecordCauses.{BadSize, JoinedSo, length_refused, record_refused, of_record, record_value_refused}
use Rattle.theorems.proofs.Chains.AcceptedChains.{accepted, accepts, accepted_once}
use Rattle.theorems.proofs.Chains.ChainCauses.{chain_refused_law}
use Rattle.theorems.proofs.Blocks.Rewritten.{front_of}
use Rattle.theorems.proofs.Calls.Answers.{fetched_exactly, fetched_record}
use Rattle.theorems.proofs.Fields.Causes.{bounded_value_replies}
use Rattle.theorems.proofs.Calls.TestsInTurn.{as_is, tested, last_tested, going_on, made_of, together, tested_lent, going_on_lent}

pub total_refused : (id f : List ℕ) (start : ℕ) → RefusedExactly (chain_refused id f start) (total_of id f start)
unfolding total_of
total_refused id f start = made_of total (chain_of id f start) (chain_refused_law id f start)

pub length_refused_law : (f : List ℕ) (start : ℕ) → RefusedExactly (length_refused f start) (data_length f start)
unfolding data_length
length_refused_law f start = tested (ltb file_limit (length f)) 7 0 _ (Decides-ltb file_limit (length f)) (total_refused id_dt f start)

-- the blocks of an accepted chain are the chain's
pub tests_joined : (id f : List ℕ) (start : ℕ) (P : List ℕ → Type 0) (test : List ℕ → Bool) → ((j : List ℕ) → Decides (test j) (P j))
    → (bs : List Block) → chain_of id f start ≡ answer bs → Decides (test (joined f bs)) (JoinedSo id f start P)
tests_joined id f start P test t bs e = (
  λ h. (bs, (accepted id f start bs e, (t (joined f bs)).0 h)),
  λ p.
      let same : p.0 ≡ bs = answered (sym (accepts id f start p.0 p.1.0) ∙ e) in
      (t (joined f bs)).1 (subst (λ (x : List Block). P (joined f x)) same p.1.1),
)

pub tests_size : (size room : ℕ) → Decides (bad_size size room) (BadSize size room)
tests_size size room =
    let t = Decides-or (eqb size 0 || ltb record_limit size) (ltb room size) (Decides-or (eqb size 0) (ltb record_limit size) (Decides-eqb size 0) (Decides-ltb record_limit size)) (Decides-ltb room size) in (
      λ h. ⊎_elim (⊎_elim inl (λ x. inr (inl x))) (λ x. inr (inr x)) (t.0 h),
      λ p. t.1 (⊎_elim (λ x. inl (inl x)) (⊎_elim (λ x. inl (inr x)) inr) p),
    )

module _ (f : List ℕ) (start k size : ℕ) (out : List ℕ) where
  pub record_refused_law : RefusedExactly (record_refused f start k size out) (fetched f start k size out).reply
  unfolding fetched record_of
  record_refused_law =
      tested_lent (bad_size size (length out)) 15 0 out _
      (tested (bad_size size (length out)) 15 0 _ (tests_size size (length out))
      (together _ _ _
      (tested_lent (ltb file_limit (length f)) 7 0 out _
      (tested (ltb file_limit (length f)) 7 0 _ (Decides-ltb file_limit (length f))
      (going_on_lent (chain_of id_dt f start) _ out
      (going_on (chain_of id_dt f start) _ (chain_refused_law id_dt f start)
      (λ bs e. tested_lent (ltb (length (joined f bs)) (k * size + size)) 16 0 out _
      (last_tested _ 16 0 tt (tests_joined id_dt f start _ (λ j. ltb (length j) (k * size + size)) (λ j. Decides-ltb (length j) (k * size + size)) bs e)))))))))

  -- ---- what is read in the record

  -- it is one record, whoever says so
  one_record_law : (g h : Fetchable f start k size out) → record_bytes f start k size out g ≡ record_bytes f start k size out h
  one_record_law g h = ap (λ (bs : List Block). span (joined f bs) (k * size) size) (accepted_once id_dt f start g.blocks h.blocks g.accepted h.accepted)

  -- and the buffer's front
  record_left_law : (h : Fetchable f start k size out) → take size (fetched f start k size out).buffer ≡ record_bytes f start k size out h
  record_left_law h =
      ap (λ (o : Outcome (Unit {0})). take size o.buffer) (fetched_record f start k size out h)
      ∙ front_of (record_bytes f start k size out h) (drop size out) size (length_span (joined f h.blocks) (k * size) size h.inside)

  pub in_record : {A : Type 0} (c : List ℕ → Cause) (g : List ℕ → Reply A) → ((s : List ℕ) → RefusedExactly (c s) (g s))
      → RefusedExactly (record_refused f start k size out or_else of_record f start k size out c)
      (and_then (fetched f start k size out).reply (λ u. g (take size (fetched f start k size out).buffer)))
  unfolding of_record
  in_record c g so =
      going_on (fetched f start k size out).reply _ record_refused_law
      (λ u e. let h = (fetched_exactly f start k size out).only u e in
      as_is (ap g (record_left_law h)) (record {
        given = λ n t x. (so _).given n t (subst (λ (s : List ℕ). c s n t) (one_record_law x.0 h) x.1);
        only = λ n t q. (h, (so _).only n t q);
      }))

  pub value_fetched_refused : (g : Group) (c : Channel) → RefusedExactly (record_value_refused f start k size out g c) (value_fetched f start k size g c out).reply
  unfolding value_fetched
  value_fetched_refused g c = in_record (λ s. bounded_refused s g c) (λ s. bounded_value_of s g c) (λ s. (bounded_value_replies s g c).refusals)
