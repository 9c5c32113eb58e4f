use Rattle.tally.proofs.Reports.{tallied_report}
use Rattle.tally.proofs.report.report_of.Goals as goal

pub returns : goal.returns
returns c =
    tallied_report c.args.number c.args.tally c.doubles_of.result c.sum_of.result c.doubles_of.ensures c.sum_of.ensures
