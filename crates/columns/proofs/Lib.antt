pub mod Narrowest
pub mod Fewest
