-- The laws of bytes and words, for the proofs here and in the crates above.
pub mod Numbers
pub mod Spans
pub mod OtherOrder
pub mod Loads
pub mod Stores
pub mod Shifts
pub mod Ids
pub mod BytesOf
