pub mod Grammar
pub mod Scripts
pub mod Pieces
pub mod Text
pub mod Levels
pub mod Spelling
