-- The report's text: numbers in decimal, and its lines.
pub mod Decimal
pub mod Text
pub mod Facts
pub mod Code
