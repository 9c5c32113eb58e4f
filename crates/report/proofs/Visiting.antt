-- What one record makes of a tally, and what many of them do.
use Rattle.std.specs.Prelude.{if◌then◌else◌}
use mathlib.Core.Path.{◌≡◌, refl, sym, ap, subst, ◌∙◌}
use mathlib.Core.Bool.{Bool, true, false}
use mathlib.Core.List.{List}
use Prim.Native.Nat.{ℕ, zero, suc, ◌+◌, ◌-◌, ◌*◌, ◌≤◌, ◌<◌}
use native.Mathlib.Omega.{arith}
use lib.ListN.{length, take, drop, length-take, length-drop}
use lib.Ieee.{is_nan}
use Rattle.definitions.specs.Bytes.{span}
use Rattle.fields.specs.declared.form.Number.{Number}
use Rattle.tally.specs.Words.{value_at}
use Rattle.tally.specs.Tallies.{Sane, empty_tally, skipped_tally, nan_tally, marked_tally, counted_tally}
use Rattle.tally.specs.declared.tally.Tally.{Tally}
use Rattle.slots.specs.Slots.{slot_word, slot_valid}
use Rattle.slots.specs.declared.slot.Slot.{Slot}
use Rattle.report.specs.Visits.{seen, visited, few_records}
use Rattle.tally.proofs.Tallying.{sane_none}

pub sane_empty : (t : Tally) → t ≡ empty_tally → Sane t
sane_empty t e = subst Sane (sym e) sane_none

-- each is counted
counted_one : (n : Number) (t : Tally) (word : ℕ) (b : Bool) → (if b then nan_tally t else marked_tally n t word).records ≡ t.records + 1
counted_one n t word true = refl
counted_one n t word false = refl

visited_step : (w : Slot) (t : Tally) (s : List ℕ) (b : Bool) → (if b then counted_tally w.number t (slot_word w s) else skipped_tally t).records ≡ t.records + 1
visited_step w t s true = counted_one w.number t (slot_word w s) (is_nan (value_at w.number (slot_word w s)))
visited_step w t s false = refl

pub visited_records : (w : Slot) (t u : Tally) (s : List ℕ) → u ≡ visited w t s → u.records ≡ t.records + 1
visited_records w t u s e = ap (λ (x : Tally). x.records) e ∙ visited_step w t s (slot_valid w s)

pub seen_records : (w : Slot) (size : ℕ) (t : Tally) (l : List ℕ) (k : ℕ) → (seen (visited w) size t l k).records ≡ t.records + k
unfolding seen
seen_records w size t l zero = omega arith
seen_records w size t l (suc k) =
    let u : Tally = seen (visited w) size t l k in
    let one : (visited w u (span l (k * size) size)).records ≡ u.records + 1 = visited_step w u (span l (k * size) size) (slot_valid w (span l (k * size) size)) in
    omega (arith, one, seen_records w size t l k)

-- ---- the loop

module _ (w : Slot) (size : ℕ) (t u : Tally) (l : List ℕ) (i n : ℕ) where
  pub few_so_far : i < n → u ≡ seen (visited w) size t l i → t.records + n < few_records → u.records < few_records
  few_so_far h e few =
      let r : u.records ≡ t.records + i = ap (λ (x : Tally). x.records) e ∙ seen_records w size t l i in
      omega arith

  pub few_left : i ≤ n → u ≡ seen (visited w) size t l i → t.records + n < few_records → u.records + (n - i) < few_records
  few_left h e few =
      let r : u.records ≡ t.records + i = ap (λ (x : Tally). x.records) e ∙ seen_records w size t l i in
      omega arith

-- behind a record that was cut
pub fewer_left : (w : Slot) (t u : Tally) (s l : List ℕ) (at : ℕ) → u ≡ visited w t s → t.records + 1 + length l < few_records
    → u.records + length (take (length l - at) (drop at l)) < few_records
fewer_left w t u s l at e h =
    omega (arith, visited_records w t u s e, length-take (length l - at) (drop at l), length-drop at l)
