pub mod Currents
pub mod Promotion
pub mod Decay
pub mod Transitions
pub mod Laws
