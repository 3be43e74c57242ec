-- Solve has the contract that callers go by; Inner and Gather are about the pairs inside a group, and the load sheet.
pub mod Solve
pub mod Inner
pub mod Gather
