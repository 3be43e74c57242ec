-- The theorems; each file opens with what it gives.
pub mod Bounds
pub mod Chains
pub mod Loading
pub mod Groups
pub mod Answers
