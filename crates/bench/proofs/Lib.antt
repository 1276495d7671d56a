-- Laws that several functions' proofs cite; the public one serves the crate above.
mod Due
mod Paths
pub mod Said
mod Settled
mod Tabling
mod Whole
