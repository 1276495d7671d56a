-- The report: how long it is, and that what it holds can be read off its bytes.
pub mod Length
pub mod Stands
