pub mod JoinAnswers
pub mod JoinParts
pub mod KeptChoices
pub mod KeptRows
pub mod PartQueries
pub mod Parts
