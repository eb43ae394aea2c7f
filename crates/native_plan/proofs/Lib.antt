pub mod Arms
pub mod Found
pub mod Joins
pub mod Lists
pub mod Nodes
pub mod Parts
pub mod Rows
pub mod SomeCount
