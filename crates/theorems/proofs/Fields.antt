-- About a field of a record.

-- why it has no value, or no validity: when each of 18 to 22, 28 and 29 is given, exactly
pub mod Causes
pub mod CausesByCalls
-- which bits of the record its value, its double and its validity depend on; of the definitions `fields` has it
pub mod LocalityByCalls
-- validity where the invalidation bytes have an end: beside the other reading, and by one bit
pub mod AreasByCalls
-- how near the double of an integer is, and in which order; of the definitions first, then of the calls
pub mod DoublesByCalls
