pub mod Seen
pub mod Visiting
pub mod Rows
pub mod Walking
pub mod Lines
pub mod Reporting
