pub mod FrontLaws
pub mod NonceLaws
