-- Definitions that know nothing of grids.
pub mod Sums
pub mod Lists
