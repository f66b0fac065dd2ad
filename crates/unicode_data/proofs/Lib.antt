pub mod FindRow
pub mod Lookup150
