pub mod Until
pub mod PageText
pub mod PageAnswers
