pub mod Replay
pub mod ReplayAnswer
