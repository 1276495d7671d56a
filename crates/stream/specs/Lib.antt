-- How the code's values read in the words of document 01.
pub mod Model
