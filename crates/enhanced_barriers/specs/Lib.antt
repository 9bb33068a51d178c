pub mod Cover
pub mod Legal
pub mod Laws
