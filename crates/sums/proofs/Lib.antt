-- The laws, lowest first.
pub mod Ring
pub mod Sums
pub mod Sizes
pub mod Lists
pub mod Every
pub mod Words
