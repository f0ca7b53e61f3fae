pub mod Deadline
pub mod Connector
pub mod TimeOut
