pub mod Parts
pub mod RuleLaws
