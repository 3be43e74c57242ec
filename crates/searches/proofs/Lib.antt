-- The laws that functions' proofs cite.
pub mod Sizes
