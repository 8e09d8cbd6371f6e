pub mod Kinds
pub mod Schemas
pub mod Takings
pub mod Queues
