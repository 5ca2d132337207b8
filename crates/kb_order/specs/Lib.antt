pub mod Order
pub mod Table
pub mod Texts
pub mod Sorting
