pub mod Calls
pub mod Prefix
pub mod Views
