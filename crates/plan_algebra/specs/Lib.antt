pub mod Conjuncts
pub mod Meaning
pub mod PlanText
pub mod Tests
pub mod Valid
