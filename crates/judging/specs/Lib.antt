pub mod Told
pub mod Cited
pub mod Judged
pub mod Conclusions
pub mod Following
pub mod Only
