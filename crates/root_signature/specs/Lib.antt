pub mod Ranges
pub mod Flags
pub mod Costs
pub mod Places
pub mod Refusals
pub mod SignatureView
pub mod Laws
