use Rattle.table.proofs.Extensions.{up_asks}
use Rattle.table.proofs.shorter.shorten_table.Goals as goal

pub drop_last-requires : goal.drop_last-requires
drop_last-requires c = up_asks _ _ c.can_be_right.ensures c.if-not-can_be_right.false _ c.count.ensures c.if-count-eq0.false
