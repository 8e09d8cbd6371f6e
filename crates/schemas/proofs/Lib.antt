pub mod Parsed
pub mod Admitted
pub mod Alike
