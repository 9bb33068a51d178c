pub mod Names
pub mod Stages
pub mod Accesses
pub mod Support
pub mod Supported
pub mod Timelines
pub mod Whole
