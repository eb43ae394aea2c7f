pub mod Asking
pub mod Combos
pub mod Finding
pub mod Joining
