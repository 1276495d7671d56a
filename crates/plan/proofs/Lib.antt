-- Laws that several functions' proofs cite; the public ones serve the crates above.
mod Begin
pub mod Chain
mod Judging
pub mod Rows
pub mod Saying
