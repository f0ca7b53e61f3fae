pub mod LastUse
pub mod RunLaws
