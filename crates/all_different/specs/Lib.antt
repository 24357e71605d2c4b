pub mod Chosen
pub mod Distinct
pub mod Soonest
pub mod Crowded
