pub mod Ready
pub mod Each
pub mod Occurring
