pub mod Object
pub mod Table
pub mod private
