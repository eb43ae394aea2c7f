pub mod WrittenAnswers
