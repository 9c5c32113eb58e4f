-- Laws over plain numbers. For crates above: Whole, SignBit, Nan, Nearest, Exact, Monotone, Widened and Narrowed.
pub mod Pattern
pub mod Whole
pub mod Ties
pub mod Aligned
pub mod SignBit
pub mod Nan
pub mod Widened
pub mod WidenedCases
pub mod Candidate
pub mod NarrowedPatterns
pub mod Nearest
pub mod Exact
pub mod Monotone
