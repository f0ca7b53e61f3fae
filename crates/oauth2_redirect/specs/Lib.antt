pub mod Query
pub mod Redirect
pub mod Place
pub mod Login
pub mod Start
pub mod Bound
pub mod End
