-- Laws that several functions' proofs cite; the public one serves the crates above.
mod Alike
mod Back
mod Delays
mod Filling
mod Gather
mod Jitter
pub mod Rows
mod Turn
mod Worked
