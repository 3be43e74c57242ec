-- What the records stand for, and the tests that the functions share.
pub mod Records
pub mod Scan
