pub mod Order
pub mod FaultText
pub mod Answer
pub mod Explanation
pub mod PageData
pub mod Page
pub mod inner
pub mod Served
