-- Streams: how many events fit into a span, events as counts, and one stream that follows another.
pub mod Counting
pub mod Counts
pub mod Grid
pub mod Follows
