pub mod VersionRule
pub mod Deciding
pub mod Questions
pub mod Held
pub mod Outcomes
pub mod ValueLock
