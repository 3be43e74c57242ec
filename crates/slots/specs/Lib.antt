-- Units in slots, links, splits in slots, a module's pairs, buffers; each file opens with what it gives.
pub mod Slots
pub mod Links
pub mod Split
pub mod Rows
pub mod Buffers
pub mod Views
pub mod Neighbours
