pub mod Words
pub mod Tallies
pub mod Meaning
