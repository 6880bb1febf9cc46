pub mod Codes
pub mod Checks
pub mod Answers
pub mod Laws
pub mod inner
