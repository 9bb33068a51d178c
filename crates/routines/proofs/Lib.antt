pub mod Counting
pub mod Commuting
pub mod Reading
pub mod Writing
pub mod Acting
