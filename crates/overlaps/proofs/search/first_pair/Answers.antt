use mathlib.Core.Path.{sym, ◌∙◌}
use Rattle.overlaps.proofs.Places.{pair_found, none_found, pairs_end}
use Rattle.overlaps.proofs.search.first_pair.Goals as goal

pub returns-in-Some : goal.returns-in-Some
returns-in-Some g c =
    pair_found g.meant _ _ _ c.loop-first-test.true c.index-list-first.is (c.requires.1 _ _ c.into.ensures) c.partner.ensures c.in-Some.is
    ∙ sym c.loop-first.invariant

pub loop-first-preserved : goal.loop-first-preserved
loop-first-preserved g c =
    c.loop-first.invariant
    ∙ none_found g.meant _ _ _ c.loop-first-test.true c.index-list-first.is (c.requires.1 _ _ c.into.ensures) c.partner.ensures c.in_default.is

pub returns : goal.returns
returns g c = pairs_end g.meant _ _ c.loop-first-test.false ∙ sym c.loop-first.invariant
