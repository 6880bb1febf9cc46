pub mod Replies
pub mod RecordCalls
