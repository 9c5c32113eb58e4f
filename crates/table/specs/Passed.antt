-- What the pass over a table tests, with a file and without one.
use Rattle.std.specs.Prelude.{Bool, true, ◌&&◌, List, ℕ, leb, Option, Some, None}
use Rattle.definitions.specs.Table.{blocks_in, ordered, in_file}
use Rattle.definitions.specs.Chain.{Block}

-- a place that is not past the file's end, if there is one
abbrev pub ends_by : Option ℕ → ℕ → Bool
ends_by None place = true
ends_by (Some n) place = leb place n

-- blocks that all end so
abbrev pub all_end : Option ℕ → List Block → Bool
all_end None bs = true
all_end (Some n) bs = in_file n bs

abbrev pub passes : Option ℕ → List ℕ → Bool
passes end w = ordered w && all_end end (blocks_in w)
