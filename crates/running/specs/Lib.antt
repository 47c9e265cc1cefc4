-- A job file's run: its execution, its report, and that it always ends.
pub mod Execution
pub mod Report
pub mod Code
pub mod Facts
pub mod Cases
