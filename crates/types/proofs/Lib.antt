pub mod Ids
pub mod ShapeBy
