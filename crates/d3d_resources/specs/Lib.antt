pub mod Answers
pub mod Digits
pub mod Mips
pub mod Resources
pub mod Buffers
pub mod Textures
pub mod Views
pub mod Footprints
