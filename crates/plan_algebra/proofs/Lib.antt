pub mod Induction
pub mod TextReads
