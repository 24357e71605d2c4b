pub mod Narrow
pub mod Load
