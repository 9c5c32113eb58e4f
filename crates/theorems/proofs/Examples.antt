-- What the definitions compute.

-- the worked examples of the rules and more, of overlaps, of tables, of reports, and of the limits
pub mod WorkedExamples
pub mod OverlapExamples
pub mod TableExamples
pub mod ReportExamples
pub mod LimitExamples
-- what the theorems on two files and on round trips suppose is met
pub mod Witnesses
