-- How the search for the first overlap of a list ends: which pair it gives, and why it gives none.
use Rattle.std.specs.Prelude.{ℕ, ◌≤◌, ◌<◌, ◌≡◌, ◌⊎◌, Bool, true, false, List, length, get_or}
use Rattle.definitions.specs.Reply.{Reply, answer, refusal}
use Rattle.definitions.specs.Channel.{Channel, is_sound_number}
use Rattle.definitions.specs.Overlap.{share_a_bit, Overlap, pair, none, channel_limit}

-- `other` stands past the end of a list, and is never asked
module _ (other : Channel) (cs : List Channel) where
  abbrev pub fixed_at : ℕ → Bool
  fixed_at i = is_sound_number (get_or cs i other)

  abbrev pub share_at : ℕ → ℕ → Bool
  share_at i j = share_a_bit (get_or cs i other) (get_or cs j other)

  -- the list can be searched: it is not too long, and every entry is a fixed number
  pub record Searchable : Type 0 where
    pub few : length cs ≤ channel_limit
    pub fixed : (i : ℕ) → i < length cs → fixed_at i ≡ true

  -- the first entry that is none
  pub record FirstOther (i : ℕ) : Type 0 where
    pub inside : i < length cs
    pub other_kind : fixed_at i ≡ false
    pub before : (k : ℕ) → k < i → fixed_at k ≡ true

  -- pairs in their order: by the first place, then by the second
  abbrev pub Earlier : ℕ → ℕ → ℕ → ℕ → Type 0
  Earlier x y i j = (x < i) ⊎ ((x ≡ i) × (y < j))

  pub record FirstPair (i j : ℕ) : Type 0 where
    pub in_order : i < j
    pub inside : j < length cs
    pub shares : share_at i j ≡ true
    pub none_before : (x y : ℕ) → x < y → y < length cs → Earlier x y i j → share_at x y ≡ false

  abbrev pub NoPair : Type 0
  NoPair = (x y : ℕ) → x < y → y < length cs → share_at x y ≡ false

  pub data OverlapEnds (r : Reply Overlap) : Type 0 where
    -- 26, whatever the entries are
    too_many : channel_limit < length cs → r ≡ refusal 26 0 → OverlapEnds r
    -- 27, whatever pairs there are
    no_fixed_number : (i : ℕ) → length cs ≤ channel_limit → FirstOther i → r ≡ refusal 27 i → OverlapEnds r
    a_pair : (i j : ℕ) → Searchable → FirstPair i j → r ≡ answer (pair i j) → OverlapEnds r
    no_pair : Searchable → NoPair → r ≡ answer none → OverlapEnds r
