use mathlib.Core.Path.{sym}
use Rattle.table.proofs.Extensions.{extend_asks}
use Rattle.table.proofs.extension.extend_table.Goals as goal

pub add-requires : goal.add-requires
add-requires c =
    let a = c.args in
    extend_asks a.file.now a.table.now a.address.0 c.if-file-gt-FILE_LIMIT.false _ c.can_be_right.ensures c.if-not-can_be_right.false _ (sym c.in_ok-block.ensures) _ c.count.ensures c.if-count-ge-TABLE_LIMIT.false
