-- The laws that the proofs of src/limbs.rt cite.
pub mod Number
pub mod Carry
pub mod Compare
