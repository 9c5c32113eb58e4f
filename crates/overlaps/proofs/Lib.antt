-- The laws over plain variables.
pub mod Back
pub mod Runs
pub mod Pairs
pub mod Entries
pub mod Places
