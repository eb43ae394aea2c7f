pub mod Chained
pub mod Equations
pub mod DoubledText
pub mod NamesInScope
pub mod PieceBytes
pub mod Spelled
