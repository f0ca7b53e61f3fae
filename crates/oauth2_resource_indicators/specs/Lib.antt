pub mod AbsoluteUri
pub mod ResourceText
pub mod private
