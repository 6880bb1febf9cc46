pub mod EventBytes
pub mod StreamJudge
pub mod Progress
pub mod Served
pub mod Witness
