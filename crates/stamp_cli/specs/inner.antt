pub mod Results
pub mod Source
pub mod Refusal
pub mod Answer
pub mod Options
