-- How the exported calls are handed a job record, and what they leave.
pub mod Words
pub mod Exports
pub mod Facts
