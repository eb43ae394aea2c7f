pub mod Scripts
pub mod Counted
