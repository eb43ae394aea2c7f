pub mod BenchTable
pub mod Draws
pub mod Statements
pub mod Summary
