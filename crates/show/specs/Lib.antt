pub mod Arguments
pub mod Whole
pub mod Parts
