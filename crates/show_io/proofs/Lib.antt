pub mod Parameters
pub mod Bodies
pub mod Printing
pub mod LineRows
pub mod Refusals
pub mod SpanText
pub mod Pieces
