-- The stop rules, for the proofs here and in the crates above, and that the meaning of an encoding is one-to-one.
pub mod Stopping
pub mod Back
