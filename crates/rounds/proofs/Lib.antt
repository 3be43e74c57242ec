-- Rounds against lists, groups and splits; each file opens with what it gives.
pub mod Scopes
pub mod Units
pub mod Answers
pub mod Enough
pub mod Rounds
