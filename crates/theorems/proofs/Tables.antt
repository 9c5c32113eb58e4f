-- About tables of fragments.

-- the pass over a table finds exactly those that can be right
pub mod RightTables
-- which numbers the refusals have, and what C is told
pub mod TableNumbers
-- why each call refuses, exactly; of the definitions first, then of the calls
pub mod TableCauses
pub mod TableCausesByCalls
-- what each call leaves of the table and of the buffer
pub mod TablesLeft
-- a table worked out afresh, and that a history of operations leaves one
pub mod AfreshTables
pub mod Histories
pub mod HistoriesByCalls
-- a fetch through such a table is that of the joined data, and just after opening the fetch through the chain
pub mod TableFetches
pub mod TableFetchesByCalls
-- when each call answers, exactly; of the definitions first, then of the calls
pub mod TableAnswers
pub mod TableAnswersByCalls
