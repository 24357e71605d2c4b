pub mod Numbers
pub mod Meant
pub mod Kinds
