pub mod Login
pub mod own_types
