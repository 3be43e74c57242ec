-- What the contracts of check and surplus cite; each file opens with what it gives.
pub mod Counts
pub mod Splits
pub mod Answers
