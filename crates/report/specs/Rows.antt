-- Records in a row, each read where it stands.
use Rattle.std.specs.Prelude.{◌≡◌, Bool, false, List, ℕ, ◌+◌, ◌-◌, ◌≤◌, ◌<◌}
use Rattle.tally.specs.Tallies.{Sane, HasMarks}
use Rattle.tally.specs.declared.tally.Tally.{Tally}
use Rattle.slots.specs.Slots.{ShiftTold}
use Rattle.slots.specs.declared.slot.Slot.{Slot}
use Rattle.report.specs.Visits.{seen, visited, few_records}
use Rattle.report.specs.declared.row.Row.{Row}

-- what is known where a row begins: the records from `first` on are left for a tally t, which has marks, and the number lies in the
-- eight bytes at p of each
pub record RowAsked (size : ℕ) (w : Slot) (p shift : ℕ) (t : Tally) (first n : ℕ) : Type 0 where
  pub place : ShiftTold size w p shift
  pub sane : Sane t
  pub marks : HasMarks t
  pub ahead : first ≤ n
  pub few : t.records + (n - first) < few_records

-- with i records seen, a tally t of the first ones has become u
pub record RowSo (size : ℕ) (w : Slot) (t : Tally) (l : List ℕ) (first i : ℕ) (u : Tally) : Type 0 where
  pub behind : first ≤ i
  pub records : u.records ≡ t.records + (i - first)
  pub sane : Sane u
  pub seen_to : (s : Tally) → t ≡ seen (visited w) size s l first → u ≡ seen (visited w) size s l i

-- without `flagged` all records are valid
abbrev pub FlagTold : Slot → Bool → Type 0
FlagTold w flagged = flagged ≡ false → w.flag_bit ≡ 8

pub record RowTo (size : ℕ) (w : Slot) (t : Tally) (l : List ℕ) (first n : ℕ) (r : Row) : Type 0 where
  pub inside : r.next ≤ n
  pub so : RowSo size w t l first r.next r.tally
