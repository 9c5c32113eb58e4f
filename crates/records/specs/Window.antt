-- A window on a longer list, as on the joined data of a chain.
use Rattle.std.specs.Prelude.{◌≡◌, ℕ, ◌+◌, ◌-◌, ◌≤◌, List, ◌++◌, length, take, drop}
use Rattle.definitions.specs.Chain.{Block}
use Rattle.chain.specs.Walk.{Walked}
use Rattle.places.specs.declared.place.Place.{Place}

-- d with c over it from index g on, as far as d goes
unfoldable pub overwritten : List ℕ → ℕ → List ℕ → List ℕ
overwritten d g c = take g d ++ take (length d - g) c ++ drop (g + length c) d

-- d is the window from index `from` on of a longer list, in which b stands at p
unfoldable pub laid : List ℕ → ℕ → ℕ → List ℕ → List ℕ
laid d from p b = overwritten d (p - from) (drop (from - p) b)

-- p is a place on the walk along the chain of the blocks, and not behind the position `from`: whoever reads from there can begin
-- at p
pub record ReadsOn (id f : List ℕ) (blocks : List Block) (from : ℕ) (p : Place) : Type 0 where
  pub ahead : p.position.0 ≤ from
  pub walked : Walked id f p
  pub same : walked.blocks ≡ blocks
