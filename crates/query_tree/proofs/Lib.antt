pub mod CondLemmas
pub mod PrefLemmas
pub mod Rising
