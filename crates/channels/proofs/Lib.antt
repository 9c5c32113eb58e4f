-- The ways through a channel block, read and written.
pub mod Channels
pub mod Back
