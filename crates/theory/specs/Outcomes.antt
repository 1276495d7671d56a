-- What is due for a plan's bytes: one answer and one report at most, each refusal exactly when document 01 says, the promise over
-- the report's bytes, and the shams.
pub mod Same
pub mod Unique
pub mod Numbers
pub mod Exactly
pub mod Room
pub mod Promise
pub mod Shams
