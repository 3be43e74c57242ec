-- The definitions; each file opens with what it gives. Lists to Check are in document 01's order; Pairless has document 02's refusal of a list without pairs,
-- Kits its item 7, with its statements.
-- Basics serves them, Words is how a list lies in memory, Promise and Cases are the other statements, Plain has document 03's own definitions.
pub mod Basics
pub mod Lists
pub mod Groups
pub mod Leaving
pub mod Cores
pub mod Splits
pub mod Surplus
pub mod Ratio
pub mod Refusals
pub mod Check
pub mod Pairless
pub mod Kits
pub mod Words
pub mod Promise
pub mod Cases
pub mod Plain
