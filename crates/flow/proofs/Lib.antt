-- The steps of this crate's loops, and the counting that makes the promise of them. They are not for other crates: those go by the contract.
mod Draining
mod Cutting
