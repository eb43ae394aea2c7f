pub mod CarsAndDealers
pub mod OneColumn
