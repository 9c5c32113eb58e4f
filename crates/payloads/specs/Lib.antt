pub mod Meaning
pub mod Found
