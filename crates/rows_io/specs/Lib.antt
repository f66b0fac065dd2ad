pub mod FirstLine
pub mod Input
pub mod Output
