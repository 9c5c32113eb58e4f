-- No pair was found before the entry at hand.
use mathlib.Core.Path.{◌≡◌}
use Rattle.overlaps.proofs.Places.{pairs_from}
use Rattle.overlaps.proofs.search.first_pair.Given as goal

abbrev pub ghost-partner : goal.ghost-partner
ghost-partner g a = g.meant

abbrev pub invariant-loop-first : goal.invariant-loop-first
invariant-loop-first g l = pairs_from g.meant l.list 0 ≡ pairs_from g.meant l.list l.first
