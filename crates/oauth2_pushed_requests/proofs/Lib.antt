pub mod Kept
pub mod PushLaws
pub mod Responses
