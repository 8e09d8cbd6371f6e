pub mod Stored
pub mod Held
pub mod Read
pub mod Shorts
