-- Refusals 7 to 10 as tests, what is to be said of a plan's bytes by refusals 1 to 10, and the part that a path asks for.
pub mod Faults
pub mod Judges
pub mod Part
pub mod Rows
