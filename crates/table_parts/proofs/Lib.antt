pub mod EnoughRows
pub mod EnoughChoices
pub mod JoinRows
pub mod JoinOutputs
pub mod PartRows
pub mod PartTyping
pub mod JoinTyping
