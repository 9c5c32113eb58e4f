-- When each call on a table answers, exactly; about the definitions, and about the clauses of the calls.
use Rattle.std.specs.Prelude.{if◌then◌else◌}
use mathlib.Core.Path.{◌≡◌, refl, sym, ap, subst, ◌∙◌}
use mathlib.Core.Bool.{Bool, true, false, not}
use mathlib.Core.List.{List}
use Prim.Native.Nat.{ℕ, ◌+◌, ◌*◌, ◌≤◌}
use native.Mathlib.Omega.{arith}
use lib.ListN.{length}
use lib.Dec.{ltb, leb, eqb}
use borrow.Author.Tests.{le-ltb, lt-leb, leb-false, ltb-false, ne_eqb, eqb-false, not-false}
use Rattle.definitions.specs.Reply.{Reply, answer, refusal, on_answer}
use Rattle.definitions.specs.Bytes.{span}
use Rattle.definitions.specs.Channel.{Channel, Group, ValidValue, bounded_value_of}
use Rattle.definitions.specs.Chain.{Block, id_dt, file_limit, joined, block_at}
use Rattle.definitions.specs.Table.{table_limit, count_of, blocks_in, ordered, sound, refusing, leaving, opened, with_block, extended, without_last, shortened, table_fetched, table_value_fetched}
use Rattle.definitions.proofs.Replies.{not_answered}
use Rattle.words.proofs.Spans.{length_span}
use Rattle.places.proofs.Answers.{followed}
use Rattle.places.proofs.Blocks.{block_stands}
use Rattle.table.proofs.Fragments.{data_long}
use Rattle.theorems.specs.Exactly.{Exactly, InArea}
use Rattle.theorems.specs.TableCauses.{Openable, Extendable, Shortenable, TableFetchable, TableValueFetchable}
use Rattle.theorems.proofs.Calls.Outcomes.{of_outcome}
use Rattle.theorems.proofs.Calls.Answers.{size_fits, size_passes, bounded_value_exactly}
use Rattle.theorems.proofs.Chains.AcceptedChains.{accepted, accepts}
use Rattle.theorems.proofs.Chains.BlocksStand.{block_taken}
use Rattle.theorems.proofs.Records.FetchEnds.{outcome_is}
use Rattle.theorems.proofs.Tables.RightTables.{tests_order, tests_right}
use Rattle.theorems.proofs.Tables.TableCauses.{Passed, table_passed, table_record, table_front}
use Rattle.theorems.proofs.Tables.Histories.{opened_from}

-- ---- a table is changed

pub open_exactly : (f : List ℕ) (start : ℕ) (w : List ℕ) → Exactly (Openable f start) (opened f start w).reply
unfolding opened
open_exactly f start w = record {
  answers = λ h. (tt, rw (le-ltb _ _ h.short, accepts id_dt f start h.blocks h.accepted, le-ltb _ _ h.few) refl);
  only = λ u e.
      let o = opened_from f start w _ (sym (outcome_is (opened f start w) e refl)) in
      record { short = o.short; blocks = o.blocks; accepted = accepted id_dt f start o.blocks o.chain; few = o.few };
}

module _ (f : List ℕ) (a : ℕ) (w : List ℕ) where
  -- the tests that an extension passed
  extended_by : (long wrong full : Bool) (r : Reply Block) (u : Unit {0})
      → (if long then refusing 7 w else if wrong then refusing 32 w else on_answer r (λ b. if full then refusing 30 w else leaving (with_block w b)) w).reply ≡ answer u
      → (long ≡ false) × (wrong ≡ false) × (full ≡ false) × (b : Block) × (r ≡ answer b)
  extended_by true wrong full r u e = not_answered u 7 0 e
  extended_by false true full r u e = not_answered u 32 0 e
  extended_by false false full (refusal n t) u e = not_answered u n t e
  extended_by false false true (answer b) u e = not_answered u 30 0 e
  extended_by false false false (answer b) u e = (refl, refl, refl, b, refl)

  pub extend_exactly : Exactly (Extendable f a w) (extended f a w).reply
  unfolding extended
  extend_exactly = record {
    answers = λ h.
        let read : block_at id_dt f a ≡ answer h.block = ap (block_at id_dt f) (sym h.there) ∙ block_taken id_dt f h.block h.stands in
        (tt, rw (le-ltb _ _ h.short, (tests_right w f).1 h.right, read, lt-leb _ _ h.room) refl);
    only = λ u e.
        let p = extended_by (ltb file_limit (length f)) (not (sound f w)) (leb table_limit (count_of w)) (block_at id_dt f a) u e in
        let s = block_stands id_dt f a p.3 p.4 in
        record {
          short = ltb-false _ _ p.0;
          right = (tests_right w f).0 (not-false (sound f w) p.1);
          block = p.3;
          there = s.0;
          stands = s.1;
          room = leb-false _ _ p.2;
        };
  }

module _ (w : List ℕ) where
  shortened_by : (wrong none : Bool) (u : Unit {0}) → (if wrong then refusing 32 w else if none then refusing 31 w else leaving (without_last w)).reply ≡ answer u
      → (wrong ≡ false) × (none ≡ false)
  shortened_by true none u e = not_answered u 32 0 e
  shortened_by false true u e = not_answered u 31 0 e
  shortened_by false false u e = (refl, refl)

  pub shorten_exactly : Exactly (Shortenable w) (shortened w).reply
  unfolding shortened
  shorten_exactly = record {
    answers = λ h. let n : count_of w ≡ 0 → ⊥ = λ z. omega (arith, h.some) in (tt, rw ((tests_order w).1 h.order, ne_eqb _ _ n) refl);
    only = λ u e.
        let p = shortened_by (not (ordered w)) (eqb (count_of w) 0) u e in
        record { order = (tests_order w).0 (not-false (ordered w) p.0); some = omega (arith, eqb-false _ _ p.1) };
  }

-- ---- a record, and a value in it

module _ (f w : List ℕ) (k size : ℕ) (out : List ℕ) where
  passed_of : TableFetchable f w k size out → Passed f w k size out
  passed_of h =
      let s : sound f w ≡ true = (tests_right w f).1 h.right in
      let l : k * size + size ≤ length (joined f (blocks_in w)) = omega (arith, data_long w f s, h.inside) in
      record { sized = size_passes size (length out) (h.some, h.small, h.room); short = le-ltb _ _ h.short; right = s; inside = le-ltb _ _ l }

  fetchable_of : Passed f w k size out → TableFetchable f w k size out
  fetchable_of p =
      let sized = size_fits size (length out) p.sized in
      let l : k * size + size ≤ length (joined f (blocks_in w)) = ltb-false _ _ p.inside in
      record {
        some = sized.0;
        small = sized.1;
        room = sized.2;
        short = ltb-false _ _ p.short;
        right = (tests_right w f).0 p.right;
        inside = omega (arith, data_long w f p.right, l);
      }

  pub table_record_exactly : Exactly (TableFetchable f w k size out) (table_fetched f w k size out).reply
  table_record_exactly = record {
    answers = λ h. (tt, of_outcome (table_record f w k size out (passed_of h)));
    only = λ u e. fetchable_of (table_passed f w k size out e);
  }

  module _ (g : Group) (c : Channel) where
    abbrev here : List ℕ
    here = span (joined f (blocks_in w)) (k * size) size

    long : Passed f w k size out → length here ≡ size
    long p = length_span (joined f (blocks_in w)) (k * size) size (ltb-false _ _ p.inside)

    value_of : Passed f w k size out → (table_value_fetched f w k size g c out).reply ≡ bounded_value_of here g c
    unfolding table_value_fetched
    value_of p = rw (table_front f w k size out p, of_outcome (table_record f w k size out p)) refl

    record_before : (v : ValidValue) → (table_value_fetched f w k size g c out).reply ≡ answer v → Passed f w k size out
    unfolding table_value_fetched
    record_before v e = let r = followed (table_fetched f w k size out).reply _ v e in table_passed f w k size out r.1

    pub table_value_exactly : Exactly (TableValueFetchable f w k size g c out) (table_value_fetched f w k size g c out).reply
    table_value_exactly = record {
      answers = λ h.
          let p = passed_of h.fetchable in
          let v = (bounded_value_exactly here g c).answers (record { field = h.field; area = subst (λ (n : ℕ). InArea n g c) (sym (long p)) h.area }) in
          (v.0, value_of p ∙ v.1);
      only = λ v e.
          let p = record_before v e in
          let b = (bounded_value_exactly here g c).only v (sym (value_of p) ∙ e) in
          record { fetchable = fetchable_of p; field = b.field; area = subst (λ (n : ℕ). InArea n g c) (long p) b.area };
    }
