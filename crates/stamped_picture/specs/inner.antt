pub mod Answer
pub mod Explanation
pub mod Page
