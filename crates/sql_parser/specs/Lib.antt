pub mod ReadGrammar
pub mod Outcome
pub mod Faults
pub mod Script
pub mod WellMade
