pub mod Given
pub mod Standing
