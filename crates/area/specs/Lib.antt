-- Storage: what a job is started with, what the lent cells hold, where a level list is held, levels packed into words, and how an area encodes the machine's state.
pub mod Settings
pub mod Records
pub mod Lookup
pub mod Packed
pub mod Entry
pub mod Log
pub mod Encoding
pub mod Facts
