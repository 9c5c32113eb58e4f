pub mod Kept
pub mod Declarations
pub mod Fragments
pub mod Steps
pub mod Back
