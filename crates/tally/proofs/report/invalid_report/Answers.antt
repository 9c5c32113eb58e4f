use Rattle.tally.proofs.Reports.{invalid_only}
use Rattle.tally.proofs.report.invalid_report.Goals as goal

pub returns : goal.returns
returns c = λ xs. invalid_only c.default.result c.default.ensures xs
