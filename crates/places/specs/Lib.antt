pub mod Meaning
pub mod Places
