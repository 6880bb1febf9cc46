pub mod Trials
pub mod Note
pub mod Answer
