pub mod AlikeTables
pub mod AlikeObligations
pub mod AlikeBlocks
