-- Laws of the pair list; each file opens with what it gives.
pub mod General
pub mod Order
pub mod Ends
pub mod Rising
pub mod Changes
pub mod Keeps
pub mod Causes
pub mod Twice
pub mod Shifts
pub mod Words
pub mod Finding
pub mod Counts
pub mod Places
pub mod Raised
pub mod WordCounts
