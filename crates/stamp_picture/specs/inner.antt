pub mod Moment
pub mod Due
pub mod Track
