pub mod Classes
pub mod Forms
pub mod Columns
pub mod Phrases
pub mod Plain
pub mod Place
pub mod Reads
