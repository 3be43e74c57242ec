-- What the calls answer and leave once their records lie in words; each file opens with what it gives.
pub mod Buffers
pub mod Gate
pub mod Edits
pub mod Placing
pub mod Reading
pub mod Writing
pub mod Peeling
pub mod Judging
pub mod Solving
pub mod Kitting
