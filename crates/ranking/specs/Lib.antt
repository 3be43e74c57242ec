-- The contract of `Ranking`'s functions, how the ranking lies in its arrays, and what is promised of every ranking; each file opens with what it gives.
pub mod Ranking
pub mod Chains
pub mod Promise
