-- A table that is opened: cleared, and filled along a chain.
use Rattle.std.specs.Prelude.{Ok, Err}
use mathlib.Core.Path.{◌≡◌, refl, sym, ap, ◌∙◌}
use mathlib.Core.List.{List, [], ◌∷◌, ◌++◌}
use Prim.Native.Nat.{ℕ, ◌+◌, ◌≤◌, ◌<◌}
use native.Mathlib.Omega.{arith}
use lib.ListN.{length, replicate, length-append}
use borrow.Author.Tests.{lt-ltb, le-ltb}
use Rattle.definitions.specs.Chain.{Block, file_limit, total}
use Rattle.definitions.specs.Table.{table_limit, count_of, total_in, places_of, table_of, with_block, opened}
use Rattle.definitions.proofs.Replies.{not_answered}
use Rattle.refusals.specs.declared.Refusal.{Refusal}
use Rattle.places.proofs.Answers.{answered}
use Rattle.table.specs.Meaning.{changed_by}
use Rattle.table.specs.Listed.{AddsWithin, added_within, Filled, Lists}
use Rattle.table.proofs.Words.{one_more}

empty_table : replicate 1026 0 ≡ table_of []
unfolding places_of total
empty_table = refl

pub table_cleared : (w v : List ℕ) → length w ≡ 1026 → v ≡ replicate (length w) 0 → v ≡ table_of []
table_cleared w v n e = e ∙ ap (λ (j : ℕ). replicate j 0) n ∙ empty_table

-- ---- fragments added along the way

pub filled_none : (most : ℕ) (w : List ℕ) → (0 < most → w ≡ table_of []) → Filled most [] w w
filled_none most w e = record { none = λ z. refl; all = λ some few. e some }

module _ (most : ℕ) (bs : List Block) (w v : List ℕ) (fill : Filled most bs w v) (within : most ≤ table_limit) (i : ℕ) (count : length bs ≡ i) (b : Block) where
  pub filled_room : total bs + b.size < 18446744073709551616 → AddsWithin i most v b
  filled_room l h =
      let e : v ≡ table_of bs = fill.all (omega arith) (omega arith) in
      (omega (arith, ap count_of e), omega (arith, ap total_in e))

  pub filled_more : (x : List ℕ) → x ≡ added_within i most v b → Filled most (bs ++ (b ∷ [])) w x
  filled_more x e = record {
    none = λ z. let l : most ≤ i = omega arith in e ∙ rw (le-ltb _ _ l) (fill.none z);
    all = λ some few.
        let m : length bs < most = omega (arith, length-append bs (b ∷ [])) in
        let l : i < most = omega arith in
        e ∙ rw (lt-ltb _ _ l) (ap (λ (y : List ℕ). with_block y b) (fill.all some (omega arith)) ∙ one_more bs b (omega arith));
  }

-- ---- the second walk meets what the first did

module _ (f : List ℕ) (start : ℕ) (w v : List ℕ) (n : ℕ) (h : Lists (Ok n) f start 0 w v) where
  pub open_done : length f ≤ file_limit → (k : ℕ) (e x : List ℕ) → n ≤ table_limit → Lists (Ok k) f start table_limit e x → changed_by (Ok tt) x ≡ opened f start w
  unfolding opened
  open_done l k e x m g =
      let few : length h.0 ≤ table_limit = omega (arith, h.2) in
      let same : g.0 ≡ h.0 = answered (sym g.1 ∙ h.1) in
      let again : x ≡ table_of h.0 = g.3.all (omega arith) (omega (arith, h.2, ap length same)) ∙ ap table_of same in
      ap (changed_by (Ok tt)) again ∙ sym (rw (le-ltb _ _ l, h.1, le-ltb _ _ few) refl)

  -- so it is not refused
  pub open_again : {A : Type 0} (r : Refusal) (e x : List ℕ) → Lists (Err r) f start table_limit e x → A
  open_again r e x g = not_answered h.0 _ _ (sym g.0 ∙ h.1)
