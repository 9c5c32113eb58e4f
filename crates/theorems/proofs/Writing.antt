-- About numbers written into records.

-- how a call ends: when it writes, exactly, when it refuses with 24 and 25, and that a refusal changes nothing
pub mod WrittenEnds
-- what was written is decoded again, no other bit changes, and what was decoded is written over itself
pub mod WrittenValues
pub mod WrittenValuesByCalls
pub mod WrittenValuesToC
