-- The laws, lowest first.
pub mod Digits
pub mod Texts
pub mod Facts
pub mod Signs
