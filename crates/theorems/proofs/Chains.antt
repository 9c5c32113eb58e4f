-- About chains of data lists.

-- where a block is taken, and a list
pub mod BlocksStand
-- which lists keep to the first one's declaration
pub mod ListsAlike
-- so which chains are accepted, exactly
pub mod AcceptedChains
-- and why each other is refused, exactly
pub mod ListCauses
pub mod ChainCauses
pub mod ChainNumbers
-- where blocks and lists stand, by the length and the count that are declared
pub mod FoundByLength
-- how much data there is, by the limits alone
pub mod WithinLimits
