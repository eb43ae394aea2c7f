pub mod Permutations
pub mod ByRows
pub mod OneAnswer
