pub mod Columns
pub mod Narrowest
pub mod Fewest
pub mod Heights
