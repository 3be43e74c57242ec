-- Laws behind the answer to a pair file; each file opens with what it gives.
pub mod Laying
pub mod Answering
