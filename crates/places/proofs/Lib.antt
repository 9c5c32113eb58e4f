pub mod Answers
pub mod Addresses
pub mod Blocks
pub mod Lists
pub mod Back
