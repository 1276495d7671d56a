-- Plans: what a reading that passes says, going back along chains, and what a well-formed plan satisfies.
pub mod Judging
pub mod Reading
pub mod Values
pub mod Sound
pub mod Pigeonhole
pub mod Chains
pub mod Inputs
pub mod WellFormed
pub mod Load
