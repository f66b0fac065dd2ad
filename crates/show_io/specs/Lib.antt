pub mod Ansi
pub mod FewSpans
pub mod SpanText
pub mod Lines
pub mod Input
