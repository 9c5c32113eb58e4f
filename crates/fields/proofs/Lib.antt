-- The laws over plain variables. Locality, OneBit and Types are for the crates above.
pub mod Back
pub mod Tests
pub mod Forms
pub mod Fields
pub mod Floats
pub mod Values
pub mod Invalidation
pub mod InArea
pub mod Types
pub mod Locality
pub mod OneBit
