pub mod Emitted
pub mod Fitting
pub mod Laws
