pub mod Sink
pub mod Numbers
pub mod Conditions
pub mod Numbering
