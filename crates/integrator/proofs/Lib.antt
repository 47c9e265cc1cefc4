-- The laws of the program's reading and printing.
pub mod Taking
pub mod Whole
