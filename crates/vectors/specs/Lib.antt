-- What the program's reading promises.
pub mod Reading
