-- Slots against lists, groups and splits; each file opens with what it gives.
pub mod InnerPairs
pub mod InnerCores
pub mod Loads
pub mod Sheets
pub mod Solving
pub mod Gathering
pub mod Scattering
pub mod InnerSearch
pub mod Lent
pub mod Lasting
