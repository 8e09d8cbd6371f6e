pub mod Faults
pub mod Listed
pub mod Items
pub mod Messages
