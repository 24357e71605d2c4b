pub mod Window
pub mod Only
