-- What is answered to a pair file.
pub mod Answers
