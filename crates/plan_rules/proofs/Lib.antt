pub mod Ends
pub mod StageEnds
