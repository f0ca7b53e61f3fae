pub mod EndLaws
pub mod RefusalLaws
