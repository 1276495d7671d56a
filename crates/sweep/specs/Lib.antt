-- What the rows that sweeps read and write hold, and what the sweeps hand back, in the words of document 01.
pub mod Rows
pub mod Planned
pub mod Works
pub mod Ends
pub mod Unique
