pub mod TokenLaws
pub mod DeviceLaws
pub mod ExtraLaws
pub mod RevocableLaws
