pub mod Replies
pub mod Values
pub mod Stored
pub mod Overlaps
pub mod Reports
