pub mod Texts
pub mod SameWords
pub mod WordLists
pub mod BoundsLine
pub mod SameLines
pub mod Parts
