pub mod Entry
pub mod Checks
pub mod Written
pub mod WrittenSo
pub mod Only
pub mod Demands
