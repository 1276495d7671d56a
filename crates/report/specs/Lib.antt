-- What is written where, and the report of the figures.
pub mod Figured
pub mod Rows
pub mod Verdicts
pub mod Wrote
