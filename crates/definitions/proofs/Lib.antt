-- Laws about the definitions that several crates cite.
pub mod Replies
pub mod Stores
pub mod Types
pub mod Shared
