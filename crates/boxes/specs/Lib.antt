pub mod InTurn
pub mod Boxes
pub mod Filled
pub mod Occurrences
