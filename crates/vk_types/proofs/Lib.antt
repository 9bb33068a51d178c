pub mod Lists
pub mod Supported
