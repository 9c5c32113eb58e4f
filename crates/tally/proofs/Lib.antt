-- Laws over plain numbers. For crates above: Ordered, Tallying.
pub mod Ordered
pub mod Patterns
pub mod Exactly
pub mod Sums
pub mod Foremost
pub mod Outermosts
pub mod Counts
pub mod Tallying
pub mod Reports
