pub mod AnyProfile
pub mod Lines
pub mod Document01
