pub mod Columns
pub mod Conditions
pub mod Leaves
pub mod Names
pub mod Rankings
pub mod Rewriting
