pub mod PushMembers
pub mod Route
pub mod PushedUrl
pub mod ErrorTexts
