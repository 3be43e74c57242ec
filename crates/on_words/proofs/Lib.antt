-- Laws behind the calls on words; each file opens with what it gives.
pub mod Orders
pub mod Changes
pub mod Fits
pub mod Filling
pub mod Enough
pub mod Peels
pub mod Sheets
pub mod Pairless
pub mod Kits
pub mod Readings
