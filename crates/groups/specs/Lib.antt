-- What the contracts of groups in words cite.
pub mod Pairs
