-- Search says what the functions do; Searches counts.
pub mod Search
pub mod Searches
