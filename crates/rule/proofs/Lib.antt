-- The laws, lowest first; Facts has what specs/Facts.antt states.
pub mod Cases
pub mod Weights
pub mod Tables
pub mod Points
pub mod Rules
pub mod Facts
