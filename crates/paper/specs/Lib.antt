-- Document 01, "Late by how much", as definitions: its sections in its order, its words for its things.
-- Words that every section uses
pub mod Words
pub mod Limits
-- "What a plan holds and what we hand back"
pub mod Bytes
pub mod Fields
pub mod Tables
-- "When the bench says no"
pub mod Refusals
-- "The equations"
pub mod Streams
pub mod Windows
pub mod Sets
pub mod Sweeps
pub mod Load
-- "The running rule"
pub mod Running
-- "The report"
pub mod Report
pub mod Places
-- Demand 3: "The running rule" and "The report" together
pub mod Kept
-- The answer: plan bytes, room, answer and report bytes
pub mod Answer
-- The line that the program prints
pub mod Line
