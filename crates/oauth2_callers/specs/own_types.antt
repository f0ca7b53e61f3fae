-- Definitions of the types that an application defines itself.
pub mod Colors
pub mod ColorErrors
pub mod CustomError
pub mod Fields
pub mod Asked
