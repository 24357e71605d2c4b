pub mod Turns
pub mod Ends
pub mod Beside
pub mod Leaps
pub mod Search
pub mod Top
pub mod RowFacts
