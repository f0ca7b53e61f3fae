pub mod Requesting
