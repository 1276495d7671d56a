-- Runs on the test bench, by computing.
pub mod J
