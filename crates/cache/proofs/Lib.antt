pub mod Heads
pub mod Uses
pub mod CachedRows
pub mod CachedHeight
pub mod CachedLine
