pub mod Utf8
pub mod Characters
