pub mod Changed
pub mod Compared
pub mod Only
