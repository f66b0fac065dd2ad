pub mod Sgr
pub mod Sequence
pub mod Spans
pub mod Search
pub mod Calls
pub mod Reader
pub mod Segments
pub mod Numbers
