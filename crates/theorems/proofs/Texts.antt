-- About texts, beside what the crate `text` shows of them.

-- the four calls for C have one clause
pub mod TextClausesToC
