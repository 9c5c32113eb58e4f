-- What a call leaves of a table. Where it refuses: every word. Where it extends: all but the count, the total and the place that the
-- block takes; where it gives up: all but the count, the total and the place that is cleared. And a fetch leaves what a fetch
-- through a chain does.
use Rattle.std.specs.Prelude.{if◌then◌else◌, Result}
use mathlib.Core.Path.{◌≡◌, refl, sym, ap, ◌∙◌}
use mathlib.Core.Bool.{Bool, true, false, not}
use mathlib.Core.List.{List}
use Prim.Native.Nat.{ℕ, ◌+◌, ◌-◌, ◌*◌}
use contract.Lifetimes.{Lfts}
use lib.ListN.{length, get_or, set, length-set}
use lib.Seq.{get_or-set_other}
use lib.Dec.{ltb, leb, eqb}
use borrow.Author.Tests.{ltb-false}
use Rattle.definitions.specs.Reply.{Reply, Outcome, answer, refusal, on_answer}
use Rattle.definitions.specs.Bytes.{span}
use Rattle.definitions.specs.Channel.{Channel, Group}
use Rattle.definitions.specs.Chain.{Block, id_dt, file_limit, joined, block_at, chain_of, bad_size, record_of}
use Rattle.definitions.specs.Table.{table_limit, count_of, total_in, blocks_in, ordered, sound, refusing, table_of, opened, with_block, extended, without_last, shortened, table_fetched, table_value_fetched}
use Rattle.definitions.proofs.Replies.{not_answered}
use Rattle.refusals.specs.declared.Refusal.{Refusal}
use Rattle.words.proofs.Spans.{length_span}
use Rattle.records.specs.Meaning.{record_reply}
use Rattle.places.specs.declared.place.FileAddress.{FileAddress}
use Rattle.table.specs.Meaning.{changed_by, change_reply}
use Rattle.block_replies.specs.Replies.{Returned, returned, returned_by}
use Rattle.replies.specs.Replies.{done_c}
use Rattle.replies.specs.declared.done.Mf4DoneReply.{Mf4DoneReply}
use Rattle.mf4.specs.Clauses.{Slice, Room}
use Rattle.theorems.specs.Clauses.{OpensTable, ExtendsTable, ShortensTable, FetchesRecord}
use Rattle.theorems.specs.ClausesToC.{OpensTableC, ExtendsTableC, ShortensTableC, FetchesRecordC}
use Rattle.theorems.proofs.Calls.Outcomes.{of_buffer, of_outcome, returned_buffer}
use Rattle.theorems.proofs.Calls.Answers.{size_fits}
use Rattle.theorems.proofs.Calls.LeftAlone.{Leaves}
use Rattle.theorems.proofs.Calls.LeftAlone as left
use Rattle.theorems.proofs.Calls.LeftAloneByCalls as by_calls
use Rattle.theorems.proofs.Calls.LeftAloneByCalls.{Sparing, Refused, reported}
use Rattle.theorems.proofs.Calls.LeftAloneToC as to_c

-- ---- where it refuses

abbrev LeavesRefused : List ℕ → Outcome (Unit {0}) → Type 0
LeavesRefused w o = (n t : ℕ) → o.reply ≡ refusal n t → o.buffer ≡ w

module _ (w : List ℕ) where
  done : (v : List ℕ) → LeavesRefused w (record { reply = answer tt; buffer = v })
  done v n t e = not_answered tt n t (sym e)

  tested : (b : Bool) (k : ℕ) (o : Outcome (Unit {0})) → LeavesRefused w o → LeavesRefused w (if b then refusing k w else o)
  tested true k o h n t e = refl
  tested false k o h n t e = h n t e

  going_on : {A : Type 0} (r : Reply A) (g : A → Outcome (Unit {0})) → ((a : A) → LeavesRefused w (g a)) → LeavesRefused w (on_answer r g w)
  going_on (answer a) g h n t e = h a n t e
  going_on (refusal m u) g h n t e = refl

  pub open_leaves : (f : List ℕ) (start : ℕ) → LeavesRefused w (opened f start w)
  unfolding opened
  open_leaves f start = tested (ltb file_limit (length f)) 7 _ (going_on (chain_of id_dt f start) _ (λ bs. tested (ltb table_limit (length bs)) 30 _ (done (table_of bs))))

  pub extend_leaves : (f : List ℕ) (a : ℕ) → LeavesRefused w (extended f a w)
  unfolding extended
  extend_leaves f a =
      tested (ltb file_limit (length f)) 7 _
      (tested (not (sound f w)) 32 _ (going_on (block_at id_dt f a) _ (λ b. tested (leb table_limit (count_of w)) 30 _ (done (with_block w b)))))

  pub shorten_leaves : LeavesRefused w (shortened w)
  unfolding shortened
  shorten_leaves = tested (not (ordered w)) 32 _ (tested (eqb (count_of w) 0) 31 _ (done (without_last w)))

-- ---- where it answers: no other word changes

-- v has the words of w but for the count, the total and place k
pub record OnePlace (k : ℕ) (w v : List ℕ) : Type 0 where
  pub long : length v ≡ length w
  pub others : (i : ℕ) → (i ≡ 0 → ⊥) → (i ≡ 1 → ⊥) → (i ≡ 2 + k * 2 → ⊥) → (i ≡ 3 + k * 2 → ⊥) → get_or v i 0 ≡ get_or w i 0

four_set : (w : List ℕ) (k c t x y : ℕ) → OnePlace k w (set (set (set (set w 0 c) 1 t) (2 + k * 2) x) (3 + k * 2) y)
four_set w k c t x y = record {
  long = simp length-set;
  others = λ i a b d e.
      get_or-set_other (set (set (set w 0 c) 1 t) (2 + k * 2) x) (3 + k * 2) i y 0 e
      ∙ get_or-set_other (set (set w 0 c) 1 t) (2 + k * 2) i x 0 d
      ∙ get_or-set_other (set w 0 c) 1 i t 0 b
      ∙ get_or-set_other w 0 i c 0 a;
}

pub extend_one_place : (w : List ℕ) (b : Block) → OnePlace (count_of w) w (with_block w b)
unfolding with_block
extend_one_place w b = four_set w (count_of w) (count_of w + 1) (total_in w + b.size) b.address (total_in w)

pub shorten_one_place : (w : List ℕ) → OnePlace (count_of w - 1) w (without_last w)
unfolding without_last
shorten_one_place w = four_set w (count_of w - 1) _ _ 0 0

-- ---- a fetch

pub table_fetch_leaves : (f w : List ℕ) (k size : ℕ) (out : List ℕ) → Leaves (λ u. size) out (table_fetched f w k size out)
unfolding table_fetched record_of
table_fetch_leaves f w k size out =
    let j : List ℕ = joined f (blocks_in w) in
    left.tested (λ u. size) out (bad_size size (length out)) _ 15 0 _ refl
    (λ sized. left.tested (λ u. size) out (ltb file_limit (length f)) _ 7 0 _ refl
    (λ short. left.tested (λ u. size) out (not (sound f w)) _ 32 0 _ refl
    (λ right. left.tested (λ u. size) out (ltb (length j) (k * size + size)) _ 16 0 _ refl
    (λ inside. left.answering (λ u. size) out tt (span j (k * size) size) size refl (length_span j (k * size) size (ltb-false _ _ inside)) (size_fits size (length out) sized).2))))

-- the field that is then read changes nothing
pub table_value_leaves : (f w : List ℕ) (k size : ℕ) (g : Group) (c : Channel) (out : List ℕ)
    → (table_value_fetched f w k size g c out).buffer ≡ (table_fetched f w k size out).buffer
unfolding table_value_fetched
table_value_leaves f w k size g c out = refl

-- ---- the calls

spared : (y : Result (Unit {0}) Refusal) (w v : List ℕ) (o : Outcome (Unit {0})) → LeavesRefused w o → changed_by y v ≡ o → Refused (change_reply y) → v ≡ w
spared y w v o h p q =
    of_buffer p
    ∙ h q.0 q.1 (sym (of_outcome p) ∙ q.2)

module _ (κs : Lfts 2) (file : Slice) (at : FileAddress) (table : Room) (y : Result (Unit {0}) Refusal) (after : List ℕ) where
  pub table_open_spares : OpensTable κs file at table y after → Refused (change_reply y) → after ≡ table.now
  table_open_spares = spared y table.now after _ (open_leaves table.now file.now at.0)

  pub table_extend_spares : ExtendsTable κs file at table y after → Refused (change_reply y) → after ≡ table.now
  table_extend_spares = spared y table.now after _ (extend_leaves table.now file.now at.0)

pub table_shorten_spares : (κs : Lfts 1) (table : Room) (y : Result (Unit {0}) Refusal) (after : List ℕ) → ShortensTable κs table y after → Refused (change_reply y) → after ≡ table.now
table_shorten_spares κs table y after = spared y table.now after _ (shorten_leaves table.now)

module _ (κs : Lfts 3) (file table : Slice) (number size : ℕ) (out : Room) where
  pub table_record_spares : Sparing (FetchesRecord κs file table number size out) (λ y. Refused (record_reply y)) (λ y. reported (λ u. size) (record_reply y)) out.now
  table_record_spares = by_calls.sparing record_reply (λ u. size) _ out.now (table_fetch_leaves file.now table.now number size out.now)

-- ---- for C

spared_to_c : (y : Mf4DoneReply) (w v : List ℕ) (o : Outcome (Unit {0})) → LeavesRefused w o → returned y v ≡ returned_by done_c o → (y.reply ≡ 0 → ⊥) → v ≡ w
spared_to_c y w v o h p some =
    let number : y.reply ≡ (done_c o.reply).reply = ap (λ (x : Returned Mf4DoneReply). x.result.reply) p in
    returned_buffer p ∙ by_reply o.reply refl (λ z. some (number ∙ z))
  where
    by_reply : (r : Reply (Unit {0})) → o.reply ≡ r → ((done_c r).reply ≡ 0 → ⊥) → o.buffer ≡ w
    by_reply (answer u) e s = absurd (s refl)
    by_reply (refusal n t) e s = h n t e

module _ (κs : Lfts 2) (file : Slice) (at : ℕ) (table : Room) (y : Mf4DoneReply) (after : List ℕ) where
  pub mf4_open_table_spares : OpensTableC κs file at table y after → (y.reply ≡ 0 → ⊥) → after ≡ table.now
  mf4_open_table_spares = spared_to_c y table.now after _ (open_leaves table.now file.now at)

  pub mf4_extend_table_spares : ExtendsTableC κs file at table y after → (y.reply ≡ 0 → ⊥) → after ≡ table.now
  mf4_extend_table_spares = spared_to_c y table.now after _ (extend_leaves table.now file.now at)

pub mf4_shorten_table_spares : (κs : Lfts 1) (table : Room) (y : Mf4DoneReply) (after : List ℕ) → ShortensTableC κs table y after → (y.reply ≡ 0 → ⊥) → after ≡ table.now
mf4_shorten_table_spares κs table y after = spared_to_c y table.now after _ (shorten_leaves table.now)

module _ (κs : Lfts 3) (file table : Slice) (number size : ℕ) (out : Room) where
  pub mf4_table_record_spares : Sparing (FetchesRecordC κs file table number size out) (λ y. y.reply ≡ 0 → ⊥) (λ y. size) out.now
  mf4_table_record_spares =
      to_c.sparing done_c (λ (y : Mf4DoneReply). y.reply) (λ y. size) (λ u. size) (λ u. refl) (λ u. refl)
      _ out.now (table_fetch_leaves file.now table.now number size out.now)
