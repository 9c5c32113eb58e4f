-- About records that are fetched from a chain.

-- how the fetch of a value ends, and what it leaves; of the definition first, then of the calls
pub mod FetchEnds
-- why a record, or a value in it, is refused, exactly
pub mod RecordCauses
pub mod RecordCausesByCalls
-- two files that join to the same bytes give the same
pub mod TwoFiles
pub mod TwoFilesRead
-- two records that hold a field alike give its value alike
pub mod RecordsAlike
