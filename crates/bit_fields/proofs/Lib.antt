-- The laws of bit fields, for the proofs here and in the crates above.
pub mod Bits
pub mod Locality
pub mod Ways
pub mod Signs
pub mod Replaced
pub mod WaysBack
pub mod StoredFields
