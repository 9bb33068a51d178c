pub mod Clocks
mod Places
