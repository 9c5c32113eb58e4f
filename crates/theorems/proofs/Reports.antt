-- About one line of a channel over all records of a chain.

-- every record is counted once, and of the valid ones those that are NaN
pub mod Counts
-- which records they are
pub mod RecordsRead
-- which doubles they give
pub mod PointsRead
-- the smallest and the largest, and that there is no second
pub mod Extremes
-- the sum fits
pub mod Sums
-- all records have a value, or none
pub mod AllOrNone
-- how a report ends, and when; what it tells; why there is none, and with which numbers
pub mod ReportEnds
pub mod LinesTell
pub mod ReportCauses
pub mod ReportNumbers
-- what it leaves in the buffer
pub mod ReportsLeft
-- two files that join to the same bytes give the same
pub mod TwoFilesReports
-- what the answer means is one-to-one, and all of it by the calls
pub mod ReportsOne
pub mod ReportsByCalls
pub mod ReportsToC
