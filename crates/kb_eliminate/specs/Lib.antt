pub mod Resolvents
pub mod Elimination
