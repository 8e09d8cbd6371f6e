pub mod Choices
pub mod Types
