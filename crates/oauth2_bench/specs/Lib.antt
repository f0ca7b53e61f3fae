pub mod Canned
