pub mod Chosen
pub mod Meant
