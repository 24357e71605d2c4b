pub mod Bits
pub mod Whole
