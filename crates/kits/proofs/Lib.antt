-- What the proof of `kit` cites.
pub mod Kits
