-- The table of sure parts: its places and its sizes, what it says of a row, how it is filled.
pub mod Table
pub mod Sizes
pub mod Parts
pub mod Fill
