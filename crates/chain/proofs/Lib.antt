-- The laws of a chain. What readers cite: joined_length, chain_stands and data_bound of Chains, what a loop keeps in Walks, and
-- of a chain that is known to be accepted Readers.
pub mod Rest
pub mod Chains
pub mod Walks
pub mod Begun
pub mod Readers
pub mod Back
