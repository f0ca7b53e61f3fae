pub mod AccessToken
pub mod IdToken
pub mod Keeper
pub mod Metadata
pub mod Redirect
pub mod Input
pub mod Run
pub mod private
