pub mod Held
pub mod Walked
pub mod Few
