pub mod SeparationProof
pub mod ExchangeProof
pub mod Document01
