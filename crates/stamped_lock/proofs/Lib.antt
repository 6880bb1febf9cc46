pub mod Accessing
pub mod NeverLosing
pub mod Validating
pub mod Tries
pub mod Timing
