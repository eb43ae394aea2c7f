pub mod Reordered
