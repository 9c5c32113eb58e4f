pub mod Meaning
pub mod Known
