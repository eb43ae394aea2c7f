pub mod Language
pub mod CountedScripts
pub mod Accepted
pub mod Faults
pub mod OneFault
pub mod Statements
