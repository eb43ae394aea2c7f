pub mod Classes
pub mod Depth
pub mod Kept
pub mod Values
pub mod Turns
pub mod Plain
