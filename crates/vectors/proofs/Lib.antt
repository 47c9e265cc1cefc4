-- The laws of the program's reading.
pub mod Taking
