pub mod Meaning
pub mod Passed
pub mod Holds
pub mod Listed
