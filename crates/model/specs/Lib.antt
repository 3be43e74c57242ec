-- What the tests' random numbers and plain model are.
pub mod Counts
pub mod Draws
pub mod Sums
