-- What the code's values mean in the words of document 01.
pub mod Judged
pub mod Parts
pub mod Places
pub mod Tables
