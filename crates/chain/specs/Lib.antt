pub mod Meaning
pub mod Walk
pub mod Located
pub mod Stepped
