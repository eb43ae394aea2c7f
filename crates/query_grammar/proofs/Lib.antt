pub mod Predictive
pub mod Written
pub mod Depth
pub mod Plain
pub mod Language
pub mod Accepted
