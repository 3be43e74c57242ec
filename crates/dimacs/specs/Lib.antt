-- The definitions of DIMACS edge files, in the order of document 02, item 1; each file opens with what it gives.
pub mod Comments
pub mod Edges
pub mod Promise
pub mod Tried
pub mod Answers
