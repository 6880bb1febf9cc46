pub mod ObservedFault
pub mod Span
pub mod ProgramValue
pub mod Fault
pub mod Candidate
pub mod Over
pub mod Behind
