use Rattle.overlaps.proofs.Places.{many_entries, other_entry, all_entries}
use Rattle.overlaps.proofs.search.first_overlap.Goals as goal

pub returns-then-list-gt-CHANNEL_LIMIT : goal.returns-then-list-gt-CHANNEL_LIMIT
returns-then-list-gt-CHANNEL_LIMIT g c = many_entries g.meant _ c.if-list-gt-CHANNEL_LIMIT.true

pub returns-in-Some : goal.returns-in-Some
returns-in-Some g c = other_entry g.meant _ c.if-list-gt-CHANNEL_LIMIT.false c.first_other.ensures c.in-Some.is

pub returns : goal.returns
returns g c = all_entries g.meant _ _ c.if-list-gt-CHANNEL_LIMIT.false c.first_other.ensures c.in_default.is c.first_pair.ensures
