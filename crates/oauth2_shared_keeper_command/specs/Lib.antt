pub mod Renewal
pub mod Effect
pub mod Refreshing
pub mod SharedKeeper
pub mod private
