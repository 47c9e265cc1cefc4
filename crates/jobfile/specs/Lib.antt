-- The job file: its numbers, its form, and what a file of the right form says.
pub mod Bytes
pub mod Form
pub mod File
pub mod Fields
pub mod Facts
