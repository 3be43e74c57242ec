-- The laws of marks; the file opens with what it gives.
pub mod Bits
