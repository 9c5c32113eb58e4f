use Rattle.tally.proofs.Reports.{valueless}
use Rattle.tally.proofs.report.valueless_report.Goals as goal

pub returns : goal.returns
returns c = λ xs. valueless c.default.result c.default.ensures xs
