-- What peel answers, and what only its own functions cite; each file opens with what it gives.
pub mod Places
pub mod Peel
pub mod Promise
pub mod Steps
pub mod Turns
