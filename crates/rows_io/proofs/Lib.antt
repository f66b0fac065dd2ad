pub mod Pairs
pub mod Reading
pub mod LineBuffer
pub mod Lines
