-- The contract of `Marks`; the file opens with what it gives.
pub mod Marks
