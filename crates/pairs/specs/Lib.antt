-- The definitions of the pair list's calls, on pairs and on words; each file opens with what it gives.
pub mod Held
pub mod Causes
pub mod Twice
pub mod Shifts
pub mod Located
pub mod Counts
