pub mod PassedFilters
pub mod PlanReads
pub mod Reduced
pub mod StagePlans
