pub mod Fields
pub mod Only
pub mod Opens
