-- The laws of written numbers, for the proofs here and in the crates above.
pub mod Digits
pub mod Standing
pub mod Choosing
pub mod Back
