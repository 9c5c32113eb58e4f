-- Records in a row, one more at a time.
use Rattle.std.specs.Prelude.{if◌then◌else◌}
use mathlib.Core.Path.{◌≡◌, sym, ap, subst, ◌∙◌}
use mathlib.Core.Bool.{Bool, true, false}
use mathlib.Core.List.{List}
use Prim.Native.Nat.{ℕ, ◌+◌, ◌*◌, ◌^◌, ◌<◌}
use native.Mathlib.Omega.{arith}
use Rattle.definitions.specs.Bytes.{span}
use Rattle.fields.specs.declared.form.Number.{Number}
use Rattle.tally.specs.Tallies.{Sane, HasMarks, skipped_tally, counted_tally}
use Rattle.tally.specs.declared.tally.Tally.{Tally}
use Rattle.tally.proofs.Tallying.{sane_skip, sane_count, marks_count}
use Rattle.slots.specs.Slots.{slot_word, slot_valid}
use Rattle.slots.specs.declared.slot.Slot.{Slot}
use Rattle.report.specs.Visits.{visited}
use Rattle.report.specs.Rows.{RowSo}
use Rattle.report.proofs.Seen.{seen_turn}
use Rattle.report.proofs.Visiting.{visited_records}

-- ---- what a record makes of a tally

module _ (w : Slot) (t u : Tally) (r : List ℕ) where
  pub visited_valid : (word : ℕ) → slot_valid w r ≡ true → word ≡ slot_word w r → u ≡ counted_tally w.number t word → u ≡ visited w t r
  visited_valid word h ew e =
      e ∙ ap (counted_tally w.number t) ew ∙ sym (ap (λ (b : Bool). if b then counted_tally w.number t (slot_word w r) else skipped_tally t) h)

  pub visited_invalid : slot_valid w r ≡ false → u ≡ skipped_tally t → u ≡ visited w t r
  visited_invalid h e = e ∙ sym (ap (λ (b : Bool). if b then counted_tally w.number t (slot_word w r) else skipped_tally t) h)

-- ---- a row

module _ (size : ℕ) (w : Slot) (t : Tally) (l : List ℕ) (first : ℕ) where
  module _ (i : ℕ) (u : Tally) (so : RowSo size w t l first i u) where
    row_turn : (v : Tally) (r : List ℕ) → r ≡ span l (i * size) size → v ≡ visited w u r → Sane v → RowSo size w t l first (i + 1) v
    row_turn v r er e sane = record {
      behind = omega (arith, so.behind);
      records = omega (arith, so.behind, so.records, visited_records w u v r e);
      sane = sane;
      seen_to = λ s f. seen_turn (visited w) size s u v l r i (so.seen_to s f) er e;
    }

    module _ (marks : HasMarks u) (v : Tally) (r : List ℕ) (er : r ≡ span l (i * size) size) where
      pub row_valid : {number : Number} (word : ℕ) → number ≡ w.number → slot_valid w r ≡ true → word ≡ slot_word w r → word < 2 ^ 64 → v ≡ counted_tally number u word
          → RowSo size w t l first (i + 1) v × HasMarks v
      row_valid word kind h ew small e₀ =
          let e : v ≡ counted_tally w.number u word = e₀ ∙ ap (λ (k : Number). counted_tally k u word) kind in (
            row_turn v r er (visited_valid w u v r word h ew e) (subst Sane (sym e) (sane_count w.number word so.sane small)),
            subst HasMarks (sym e) (marks_count w.number word so.sane marks),
          )

      pub row_invalid : slot_valid w r ≡ false → v ≡ skipped_tally u → RowSo size w t l first (i + 1) v × HasMarks v
      row_invalid h e = (row_turn v r er (visited_invalid w u v r h e) (subst Sane (sym e) (sane_skip so.sane)), subst HasMarks (sym e) marks)
