-- When an operation on a table is refused, and a record through one, exactly.
use Rattle.std.specs.Prelude.{if◌then◌else◌}
use mathlib.Core.Path.{◌≡◌, refl, sym, ap, subst, ◌∙◌}
use mathlib.Core.Bool.{Bool, true, false, not}
use mathlib.Core.List.{List, ◌++◌}
use Prim.Native.Nat.{ℕ, ◌+◌, ◌*◌, ◌≤◌, ◌<◌}
use lib.ListN.{length, take, drop}
use lib.Dec.{ltb, leb, eqb}
use borrow.Author.Tests.{ltb-true, lt-ltb, ltb-false, leb-true, le-leb, not-false}
use Rattle.std.specs.Bool.{Decides}
use Rattle.std.proofs.lemmas.Bool.Decides.{Decides-ltb, Decides-eqb, Decides-not}
use Rattle.definitions.specs.Reply.{Outcome, answer}
use Rattle.definitions.specs.Bytes.{span}
use Rattle.definitions.specs.Channel.{Channel, Group, bounded_value_of}
use Rattle.definitions.specs.Chain.{Block, id_dt, file_limit, joined, block_at, chain_of, bad_size, record_of}
use Rattle.definitions.specs.Table.{table_limit, count_of, total_in, blocks_in, ordered, sound, refusing, opened, extended, shortened, table_fetched, table_value_fetched}
use Rattle.definitions.proofs.Replies.{answered, not_answered}
use Rattle.words.proofs.Spans.{length_span}
use Rattle.table.proofs.Fragments.{data_long}
use Rattle.theorems.specs.Refused.{RefusedExactly}
use Rattle.theorems.specs.TableCauses.{TooMany, open_refused, extend_refused, shorten_refused, table_record_refused, table_value_refused}
use Rattle.theorems.proofs.Blocks.Rewritten.{front_of}
use Rattle.theorems.proofs.Chains.AcceptedChains.{accepted, accepts}
use Rattle.theorems.proofs.Chains.ChainCauses.{chain_refused_law}
use Rattle.theorems.proofs.Chains.ListCauses.{block_refused_law}
use Rattle.theorems.proofs.Fields.Causes.{bounded_value_replies}
use Rattle.theorems.proofs.Records.RecordCauses.{tests_size}
use Rattle.theorems.proofs.Tables.RightTables.{tests_order, tests_right}
use Rattle.theorems.proofs.Calls.TestsInTurn.{as_is, tested, tested_else, last_tested, going_on, tested_lent, going_on_lent}

-- ---- a table is changed

module _ (f : List ℕ) (start : ℕ) (w : List ℕ) where
  -- the blocks of an accepted chain are the chain's
  tests_many : (bs : List Block) → chain_of id_dt f start ≡ answer bs → Decides (ltb table_limit (length bs)) (TooMany f start)
  tests_many bs e = (
    λ h. (bs, (accepted id_dt f start bs e, ltb-true table_limit (length bs) h)),
    λ p.
        let same : p.0 ≡ bs = answered (sym (accepts id_dt f start p.0 p.1.0) ∙ e) in
        lt-ltb table_limit (length bs) (subst (λ (x : List Block). table_limit < length x) same p.1.1),
  )

  pub open_refused_law : RefusedExactly (open_refused f start) (opened f start w).reply
  unfolding opened
  open_refused_law =
      tested_lent (ltb file_limit (length f)) 7 0 w _
      (tested (ltb file_limit (length f)) 7 0 _ (Decides-ltb file_limit (length f))
      (going_on_lent (chain_of id_dt f start) _ w
      (going_on (chain_of id_dt f start) _ (chain_refused_law id_dt f start)
      (λ bs e. tested_lent (ltb table_limit (length bs)) 30 0 w _ (last_tested _ 30 0 tt (tests_many bs e))))))

module _ (f : List ℕ) (a : ℕ) (w : List ℕ) where
  tests_full : Decides (leb table_limit (count_of w)) (table_limit ≤ count_of w)
  tests_full = (leb-true table_limit (count_of w), le-leb table_limit (count_of w))

  pub extend_refused_law : RefusedExactly (extend_refused f a w) (extended f a w).reply
  unfolding extended
  extend_refused_law =
      tested_lent (ltb file_limit (length f)) 7 0 w _
      (tested (ltb file_limit (length f)) 7 0 _ (Decides-ltb file_limit (length f))
      (tested_lent (not (sound f w)) 32 0 w _
      (tested (not (sound f w)) 32 0 _ (Decides-not (sound f w) (tests_right w f))
      (going_on_lent (block_at id_dt f a) _ w
      (going_on (block_at id_dt f a) _ (block_refused_law id_dt f a)
      (λ b e. tested_lent (leb table_limit (count_of w)) 30 0 w _ (last_tested _ 30 0 tt tests_full)))))))

pub shorten_refused_law : (w : List ℕ) → RefusedExactly (shorten_refused w) (shortened w).reply
unfolding shortened
shorten_refused_law w =
    tested_lent (not (ordered w)) 32 0 w _
    (tested (not (ordered w)) 32 0 _ (Decides-not (ordered w) (tests_order w))
    (tested_lent (eqb (count_of w) 0) 31 0 w _ (last_tested _ 31 0 tt (Decides-eqb (count_of w) 0))))

-- ---- a record

module _ (f w : List ℕ) (k size : ℕ) (out : List ℕ) where
  abbrev held : List ℕ
  held = joined f (blocks_in w)

  tests_past : sound f w ≡ true → Decides (ltb (length held) (k * size + size)) (total_in w < k * size + size)
  tests_past s = subst (λ (n : ℕ). Decides (ltb (length held) (k * size + size)) (n < k * size + size)) (data_long w f s) (Decides-ltb (length held) (k * size + size))

  pub table_record_refused_law : RefusedExactly (table_record_refused f w k size out) (table_fetched f w k size out).reply
  unfolding table_fetched record_of
  table_record_refused_law =
      tested_lent (bad_size size (length out)) 15 0 out _
      (tested (bad_size size (length out)) 15 0 _ (tests_size size (length out))
      (tested_lent (ltb file_limit (length f)) 7 0 out _
      (tested (ltb file_limit (length f)) 7 0 _ (Decides-ltb file_limit (length f))
      (tested_lent (not (sound f w)) 32 0 out _
      (tested_else (not (sound f w)) 32 0 _ (Decides-not (sound f w) (tests_right w f))
      (λ right. tested_lent (ltb (length held) (k * size + size)) 16 0 out _
      (last_tested _ 16 0 tt (tests_past (not-false (sound f w) right)))))))))

  -- ---- a record that was fetched

  passes : (b : Bool) (n : ℕ) (o : Outcome (Unit {0})) → (if b then refusing n out else o).reply ≡ answer tt → (b ≡ false) × (o.reply ≡ answer tt)
  passes true n o e = not_answered tt n 0 e
  passes false n o e = (refl, e)

  -- the tests that it passed
  pub record Passed : Type 0 where
    pub sized : bad_size size (length out) ≡ false
    pub short : ltb file_limit (length f) ≡ false
    pub right : sound f w ≡ true
    pub inside : ltb (length held) (k * size + size) ≡ false

  pub table_passed : (table_fetched f w k size out).reply ≡ answer tt → Passed
  unfolding table_fetched record_of
  table_passed e =
      let one = passes (bad_size size (length out)) 15 _ e in
      let two = passes (ltb file_limit (length f)) 7 _ one.1 in
      let three = passes (not (sound f w)) 32 _ two.1 in
      let four = passes (ltb (length held) (k * size + size)) 16 _ three.1 in
      record { sized = one.0; short = two.0; right = not-false (sound f w) three.0; inside = four.0 }

  -- it stands in the front of the buffer, and nothing behind it changes
  pub table_record : Passed → table_fetched f w k size out ≡ record { reply = answer tt; buffer = span held (k * size) size ++ drop size out }
  unfolding table_fetched record_of
  table_record p = rw (p.sized, p.short, p.right, p.inside)

  pub table_front : Passed → take size (table_fetched f w k size out).buffer ≡ span held (k * size) size
  table_front p =
      let l : k * size + size ≤ length held = ltb-false (length held) (k * size + size) p.inside in
      ap (λ (o : Outcome (Unit {0})). take size o.buffer) (table_record p)
      ∙ front_of (span held (k * size) size) (drop size out) size (length_span held (k * size) size l)

  pub table_value_refused_law : (g : Group) (c : Channel) → RefusedExactly (table_value_refused f w k size out g c) (table_value_fetched f w k size g c out).reply
  unfolding table_value_fetched
  table_value_refused_law g c =
      going_on (table_fetched f w k size out).reply _ table_record_refused_law
      (λ u e. as_is (ap (λ (s : List ℕ). bounded_value_of s g c) (table_front (table_passed e))) (bounded_value_replies (span held (k * size) size) g c).refusals)
