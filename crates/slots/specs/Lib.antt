pub mod Slots
pub mod Known
