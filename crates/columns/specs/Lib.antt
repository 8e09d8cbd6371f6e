pub mod Entries
pub mod Looks
pub mod Slots
pub mod Rules
pub mod Cells
pub mod Reads
pub mod Extended
pub mod Fits
