-- The meaning is one-to-one: from a reply the code's own answer comes back.
use mathlib.Core.Path.{◌≡◌, refl}
use Rattle.std.specs.Prelude.{Option, Some, None, Result}
use Rattle.definitions.specs.Overlap.{Overlap, pair, none}
use Rattle.refusals.specs.declared.Refusal.{Refusal}
use Rattle.refusals.proofs.Back.{replied_one}
use Rattle.overlaps.specs.Meaning.{found_meant, overlap_reply}
use Rattle.overlaps.specs.declared.answer.Pair.{Pair}

abbrev found_of : Overlap → Option Pair
found_of (pair i j) = Some (record { first = i; second = j })
found_of none = None

found_back : (found : Option Pair) → found_of (found_meant found) ≡ found
found_back (Some p) = refl
found_back None = refl

pub overlap_one : (a b : Result (Option Pair) Refusal) → overlap_reply a ≡ overlap_reply b → a ≡ b
overlap_one = replied_one found_meant found_of found_back
