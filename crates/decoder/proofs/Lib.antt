-- The laws over plain variables. Locality and Nearest are for the crates above.
pub mod ExactIntegers
pub mod Doubles
pub mod LaidAnew
pub mod WordFields
pub mod Judged
pub mod Locality
pub mod Nearest
