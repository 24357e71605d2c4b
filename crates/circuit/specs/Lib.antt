-- The circuit rule by masks of positions: masks; what position 0 reaches; when a set traps.
pub mod Mask
pub mod Reach
pub mod Trap
