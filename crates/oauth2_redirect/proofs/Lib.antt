pub mod Visible
pub mod Values
pub mod Escapes
pub mod StartLaws
pub mod EndLaws
pub mod LoginBack
