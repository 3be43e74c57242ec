-- Flow has the promise that callers go by; Drain says what the functions below it do.
pub mod Flow
pub mod Drain
