-- The laws over plain variables. Flags, Rows and Small are for the crates above.
pub mod Signs
pub mod Numbers
pub mod Flags
pub mod OneSize
pub mod Places
pub mod Rows
pub mod Small
