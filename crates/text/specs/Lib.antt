pub mod Meaning
pub mod Parts
