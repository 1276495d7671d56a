-- What one task's bound is worked out from, and what the code's answers say, in the words of document 01.
pub mod Setting
pub mod Looking
pub mod Answers
-- Uniqueness: no two outcomes
pub mod Unique
