-- What the public calls answer and leave behind; each file opens with what it gives.
pub mod Laying
pub mod Listing
pub mod Reading
pub mod Writing
pub mod Peeling
pub mod Judging
pub mod Solving
pub mod Kitting
pub mod Promise
pub mod Keeping
pub mod Twice
pub mod Placing
pub mod Exchange
