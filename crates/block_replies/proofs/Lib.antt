pub mod Structs
pub mod InOrder
pub mod Examples
pub mod ToldToC
