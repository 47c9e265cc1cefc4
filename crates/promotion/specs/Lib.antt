-- Axes marked for admission, what the scan for them goes by, and what the answers of the code stand for.
pub mod Marks
pub mod Outcomes
