-- The ways through a header and a data list, read and written.
pub mod Headers
pub mod Lists
pub mod Writes
pub mod Back
