pub mod BestLaws
pub mod CondInduction
pub mod CondReads
pub mod Judged
pub mod PlaceReads
pub mod ReadLaws
pub mod Truths
