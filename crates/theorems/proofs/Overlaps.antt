-- About channels that share a bit.

-- the pair that is given is the first, and none is given exactly where there is none
pub mod Overlaps
pub mod OverlapsToC
-- the entries that can be searched are those that have a value in every record which is long enough
pub mod SoundNumbers
