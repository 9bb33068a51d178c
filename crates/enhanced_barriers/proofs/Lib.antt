pub mod LegalParts
pub mod Pairs
