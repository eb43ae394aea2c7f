pub mod Adding
pub mod Equal
