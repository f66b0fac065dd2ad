pub mod Parts
pub mod Wraps
pub mod Calls
pub mod Remembers
pub mod Numbers
