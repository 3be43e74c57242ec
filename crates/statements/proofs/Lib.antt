-- Document 03's statements from our theorems and contracts; each file opens with what it gives.
pub mod Theory
pub mod Lent
pub mod Sheets
pub mod Twenty
pub mod Says
