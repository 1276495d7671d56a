-- The laws that the proofs of src/lib.rt cite, and callers' proofs (`Shares`).
mod Pair
mod Room
mod Ran
pub mod Shares
