pub mod Relations
pub mod Agrees
pub mod Answers
