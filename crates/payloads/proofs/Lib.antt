-- The laws of payloads, in the order of the ways through a call.
pub mod Found
pub mod Stored
pub mod Back
