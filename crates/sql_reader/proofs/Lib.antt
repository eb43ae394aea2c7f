pub mod OneReading
pub mod SomeReading
