-- The laws, lowest first.
pub mod Fronts
pub mod Wanted
pub mod Delivering
