pub mod Table
pub mod Lending
pub mod Written
pub mod inner
