-- The cumulative rule by leaps: which times have to be tried; what the search computes; that a leap is right; the whole row.
pub mod Jumps
pub mod Steps
pub mod Top
pub mod Row
