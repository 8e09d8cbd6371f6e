pub mod Leads
pub mod Shapes
pub mod Spelled
pub mod Found
