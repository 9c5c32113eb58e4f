-- The places of a table, and which of its fragments a position falls into.
use Rattle.std.specs.Prelude.{◌≡◌, ℕ, ◌+◌, ◌≤◌, ◌<◌, List, [], ◌∷◌, length, get_or}
use Rattle.definitions.specs.Table.{table_limit, count_of, address_at, position_at}

-- the places of a table, each an address and a position
pub record Places (w : List ℕ) (places : List (List ℕ)) : Type 0 where
  pub all : length places ≡ table_limit
  pub each : (i : ℕ) → i < table_limit → get_or places i [] ≡ address_at w i ∷ position_at w i ∷ []

-- fragment i is the last that begins no later than p
pub record Holds (w : List ℕ) (p i : ℕ) : Type 0 where
  pub one : i < count_of w
  pub begins : position_at w i ≤ p
  pub ends : i + 1 < count_of w → p < position_at w (i + 1)
