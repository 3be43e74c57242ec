-- The steps of this crate's loops. Crate `flow` needs what is known of slots that lead out, and of how many numbers are 0. Tally: no searches.
pub mod Leads
pub mod Zeros
pub mod Tally
mod Ranking
mod Visiting
mod Excess
mod Pulling
mod Settling
