-- Records that stand end to end, visited in turn.
use Rattle.std.specs.Prelude.{◌≡◌, List, ℕ, zero, suc, ◌+◌, ◌*◌, ◌^◌, ◌<◌, length, take, drop, if◌then◌else◌}
use Rattle.definitions.specs.Bytes.{span}
use Rattle.tally.specs.Tallies.{skipped_tally, counted_tally}
use Rattle.tally.specs.declared.tally.Tally.{Tally}
use Rattle.slots.specs.Slots.{slot_word, slot_valid}
use Rattle.slots.specs.declared.slot.Slot.{Slot}

-- the state s after the first k records of l, each of `size` bytes, where a record makes a state of a state by v
unfoldable pub seen : {S : Type 0} → (S → List ℕ → S) → ℕ → S → List ℕ → ℕ → S
seen v size s l zero = s
seen v size s l (suc k) = v (seen v size s l k) (span l (k * size) size)

-- j is seen from the state s on but for its last `fill` bytes, which are too few for a record and stand in front of buf
pub record Held {S : Type 0} (v : S → List ℕ → S) (size : ℕ) (s : S) (j buf : List ℕ) (now : S) (fill : ℕ) : Type 0 where
  pub k : ℕ
  pub state : now ≡ seen v size s j k
  pub long : length j ≡ k * size + fill
  pub small : fill < size
  pub kept : take fill buf ≡ drop (k * size) j

-- what a record makes of a tally
abbrev pub visited : Slot → Tally → List ℕ → Tally
visited w t r = if slot_valid w r then counted_tally w.number t (slot_word w r) else skipped_tally t

-- fewer records than this are in any data
abbrev pub few_records : ℕ
few_records = 2 ^ 63
