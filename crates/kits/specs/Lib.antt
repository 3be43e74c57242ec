-- What the contract of `kit` cites.
pub mod Kits
