pub mod Fields
pub mod Walks
