pub mod Quotation
pub mod Adapted
pub mod Events
pub mod Replies
pub mod Replay
pub mod Clock
pub mod World
