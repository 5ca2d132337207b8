pub mod LocalLaws
pub mod Stacks
