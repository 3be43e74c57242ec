-- Laws of lines; each file opens with what it gives.
pub mod Digits
pub mod Forms
pub mod Found
pub mod Taken
pub mod Spelling
pub mod Fills
pub mod Prefix
pub mod Putting
pub mod Parts
pub mod Lengths
pub mod Writing
