-- What follows from document 01's definitions. Read Promise first, demands 2 and 3 for a well-formed plan; then Outcomes.Promise,
-- which says them of the report's bytes.
pub mod Numbers
pub mod Bytes
pub mod Streams
pub mod Task
pub mod Plans
pub mod Sweeps
pub mod Runs
pub mod Promise
pub mod Outcomes
pub mod Report
pub mod Twin
pub mod Case
pub mod Starred
pub mod Reached
