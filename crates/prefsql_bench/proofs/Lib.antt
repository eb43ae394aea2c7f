pub mod BlockLemmas
pub mod DrawLemmas
pub mod LineLemmas
pub mod NameLemmas
