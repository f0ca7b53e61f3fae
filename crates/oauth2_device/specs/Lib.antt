pub mod DeviceToken
pub mod Events
pub mod Poll
pub mod private
