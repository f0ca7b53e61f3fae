pub mod Fields
pub mod private
