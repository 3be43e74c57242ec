-- Counting in groups; the file opens with what it gives.
pub mod Counts
