pub mod WrittenScript
