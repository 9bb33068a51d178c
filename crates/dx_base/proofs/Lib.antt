pub mod Lists
pub mod Each
pub mod Effects
