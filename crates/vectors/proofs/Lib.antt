pub mod FieldText
pub mod InputParts
pub mod KeptWraps
