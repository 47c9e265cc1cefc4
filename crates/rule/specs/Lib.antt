-- The rule along one axis: definitions, then what is proved of them.
pub mod Points
pub mod Rules
pub mod Weights
pub mod Facts
