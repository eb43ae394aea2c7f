pub mod Parts
pub mod WellMadeColumns
pub mod WellMadeBases
pub mod WellMadeConditions
pub mod WellMadeStatements
