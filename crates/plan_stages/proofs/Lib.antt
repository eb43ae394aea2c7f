pub mod Loops
pub mod RankReads
pub mod SinkReads
