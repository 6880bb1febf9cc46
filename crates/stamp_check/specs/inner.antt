pub mod GoesOn
pub mod LockReplies
pub mod Walk
