use borrow.Author.Rules.{rules}
use Rattle.table.proofs.Openings.{table_cleared, open_done, open_again}
use Rattle.table.proofs.opening.open_table.Goals as goal

pub list_chain-requires-2 : goal.list_chain-requires-2
list_chain-requires-2 c =
    (c.if-file-gt-FILE_LIMIT.false, search rules, λ some. table_cleared c.list_chain.new.table _ (search rules) c.clear.ensures)

-- the second meets the same, so it is not refused
pub returns-in_err-list_chain : goal.returns-in_err-list_chain
returns-in_err-list_chain c =
    open_again _ _ _ _ _ c.in_ok-fragments.ensures _ _ _ c.in_err-list_chain.ensures

pub returns : goal.returns
returns c =
    open_done _ _ _ _ _ c.in_ok-fragments.ensures c.if-file-gt-FILE_LIMIT.false _ _ _ c.if-fragments-gt-TABLE_LIMIT.false c.in_ok-list_chain.ensures
