-- The program is a list of calls: the calls that it makes on a job file, and what holds of them.
pub mod Calls
pub mod Facts
