pub mod OneSorted
pub mod Utf8Order
pub mod ValueEq
pub mod ValueOrder
