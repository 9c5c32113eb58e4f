-- The first two channels of a list whose fields share a bit of the record.
use Rattle.std.specs.Prelude.{ℕ, zero, suc, ◌+◌, Bool, false, ◌||◌, List, [], ◌∷◌, length, ltb, eqb, if◌then◌else◌}
use Rattle.definitions.specs.Reply.{Reply, answer, refusal}
use Rattle.definitions.specs.Channel.{Channel, bit_place, is_sound_number}

-- ---- the bits of a field

-- whether one of the n numbers from k on passes a test
unfoldable pub some_from : ℕ → ℕ → (ℕ → Bool) → Bool
some_from k zero test = false
some_from k (suc n) test = test k || some_from (k + 1) n test

-- the field's own bits of its number are bit_count from bit_offset on
abbrev pub some_bit : Channel → (ℕ → Bool) → Bool
some_bit c test = some_from c.bit_offset c.bit_count test

-- a bit of a and a bit of b stand in one place
unfoldable pub share_a_bit : Channel → Channel → Bool
share_a_bit a b = some_bit a (λ k. some_bit b (λ l. eqb (bit_place a k) (bit_place b l)))

-- ---- the list

-- two places of the list, counted from 0, or none
pub data Overlap : Type 0 where
  pair : ℕ → ℕ → Overlap
  none : Overlap

-- a, at place i, with the first of the entries from place j on that it shares a bit with; else what comes after
unfoldable pub pair_with : ℕ → Channel → ℕ → List Channel → Overlap → Overlap
pair_with i a j [] after = after
pair_with i a j (b ∷ bs) after = if share_a_bit a b then pair i j else pair_with i a (j + 1) bs after

-- the first pair among the entries from place i on
unfoldable pub first_pair : ℕ → List Channel → Overlap
first_pair i [] = none
first_pair i (a ∷ cs) = pair_with i a (i + 1) cs (first_pair (i + 1) cs)

-- 27: the first entry that is no sound number, by its place; the entries given are those from place i on
unfoldable pub all_fixed : ℕ → List Channel → Reply Overlap → Reply Overlap
all_fixed i [] r = r
all_fixed i (c ∷ cs) r = if is_sound_number c then all_fixed (i + 1) cs r else refusal 27 i

-- 26: over 256 entries
abbrev pub channel_limit : ℕ
channel_limit = 256

unfoldable pub overlap_of : List Channel → Reply Overlap
overlap_of cs = if ltb channel_limit (length cs) then refusal 26 0 else all_fixed 0 cs (answer (first_pair 0 cs))
