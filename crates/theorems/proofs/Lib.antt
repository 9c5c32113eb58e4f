-- What follows from the definitions and of the calls: a table of contents, in the order of the table in README.md. In each part a
-- law stands first about the definitions, then about the clauses of the library's calls (`ByCalls`) and of those for C (`ToC`).

-- of every call: no second reply, what it leaves, when it answers, how it refuses, what C is told
pub mod Calls
-- types and their codes, both ways
pub mod Types
-- blocks: when they are read, why they are refused, and written and read both ways
pub mod Blocks
-- why a field has no value, which bits it depends on, and how near its double is
pub mod Fields
-- texts, whose laws stand in the crate `text`
pub mod Texts
-- which chains are accepted, why others are refused, and where their blocks stand
pub mod Chains
-- how the fetch of a value ends, and why; records of two files
pub mod Records
-- tables of fragments: when they are right, what a history leaves of them, and records through them
pub mod Tables
-- the same of values that are kept outside their record
pub mod Payloads
-- one line of a channel over all records: its counts, its outermost doubles and its sum
pub mod Reports
-- numbers that are written, and decoded again
pub mod Writing
-- channels that share a bit
pub mod Overlaps
-- the worked examples, and that what the theorems suppose can be met
pub mod Examples
