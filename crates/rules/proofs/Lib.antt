-- Laws that several functions' proofs cite; the public ones serve the crates above.
mod Deciding
mod Listed
mod Lowest
mod Lying
mod Outcome
pub mod Said
pub mod WhenRead
