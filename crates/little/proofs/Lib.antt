pub mod Spelled
pub mod Maybe
