pub mod NameLemmas
pub mod TypedLemmas
