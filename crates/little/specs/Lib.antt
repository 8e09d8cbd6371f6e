pub mod Maybe
pub mod Numbers
