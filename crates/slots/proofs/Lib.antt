-- Laws of the definitions of specs/, for whoever works with slots; and the steps of a loop of this crate (Passing).
pub mod Choice
pub mod Totals
pub mod Mates
pub mod Held
pub mod Words
pub mod Moves
pub mod Counting
pub mod Linking
pub mod Rows
pub mod Buffers
pub mod Spreading
mod Passing
