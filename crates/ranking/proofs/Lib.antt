-- The laws of keys and of the order, for callers, and of the links, for this crate; each file opens with what it gives.
pub mod Order
pub mod Buckets
pub mod Cells
pub mod Removing
pub mod Inserting
pub mod Yields
pub mod Walks
pub mod Promises
pub mod Alike
pub mod Keys
pub mod Steps
