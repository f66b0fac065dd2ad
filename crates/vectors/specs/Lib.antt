pub mod Fields
pub mod Recorded
pub mod Program
pub mod Cached
