-- The entry's contract, what its parts pass on, and that it has one outcome.
pub mod Answers
pub mod Rows
pub mod Sums
pub mod Tabled
pub mod Unique
