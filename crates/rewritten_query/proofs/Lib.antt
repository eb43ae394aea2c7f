pub mod ConditionReads
pub mod RankingReads
