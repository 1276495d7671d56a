-- No two outcomes satisfy the contract of an entry for C and Rust.
pub mod Unique
