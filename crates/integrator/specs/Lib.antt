-- What the program promises: its reading, and its run as a whole.
pub mod Reading
pub mod Run
