pub mod Relations
pub mod Lefts
pub mod Agrees
