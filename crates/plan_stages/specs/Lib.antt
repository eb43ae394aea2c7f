pub mod Placing
pub mod Separation
pub mod Sinking
pub mod Stages
