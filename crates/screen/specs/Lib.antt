pub mod Records
pub mod WellFormed
pub mod Row
pub mod Calls
pub mod Stored
pub mod Screen
pub mod Output
pub mod Drawn
