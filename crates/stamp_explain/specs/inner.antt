pub mod Observed
pub mod Points
pub mod Apart
pub mod Replaying
pub mod States
pub mod Cut
