-- The theorems about what `peel` leaves, and what its own proofs use; each file opens with what it gives.
pub mod Degrees
pub mod Leavers
pub mod Ranks
pub mod Stepping
pub mod Walks
pub mod Orders
pub mod Numbers
pub mod Remainders
pub mod Answers
pub mod Promises
