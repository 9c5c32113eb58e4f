pub mod Replies
pub mod Channels
