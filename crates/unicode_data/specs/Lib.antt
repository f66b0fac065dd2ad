pub mod Classes
pub mod Table
pub mod Table150
pub mod Vectors
