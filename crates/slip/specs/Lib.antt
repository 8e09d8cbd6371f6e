pub mod Slips
pub mod Chosen
pub mod Shown
