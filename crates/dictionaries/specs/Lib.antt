pub mod Values
pub mod Stores
pub mod Places
pub mod Areas
