pub mod Cycle
pub mod DecidedRun
