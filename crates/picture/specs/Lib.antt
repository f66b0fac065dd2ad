pub mod Conditions
pub mod Picture
