-- About values that are kept outside their record.

-- how a call ends, with what it leaves, and when it answers, exactly
pub mod PayloadEnds
pub mod PayloadAnswers
pub mod PayloadsByCalls
pub mod PayloadsToC
-- why a payload is refused, exactly
pub mod PayloadCauses
pub mod PayloadCausesByCalls
-- two files whose chains join to the same bytes give the same
pub mod TwoFilesPayloads
