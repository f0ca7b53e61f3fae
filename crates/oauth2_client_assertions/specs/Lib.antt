pub mod AssertingCall
pub mod Assertions
pub mod Endpoints
pub mod ErrorTexts
pub mod Laws
pub mod Requests
pub mod private
