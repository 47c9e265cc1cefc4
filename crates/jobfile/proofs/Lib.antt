-- The laws, lowest first.
pub mod Fields
pub mod HeaderForm
pub mod TableForm
pub mod ReadingsForm
pub mod Answers
pub mod Formed
pub mod Back
pub mod Decided
pub mod Numbers
pub mod Parts
pub mod Places
pub mod Named
pub mod OneByte
pub mod Facts
pub mod Bytes
