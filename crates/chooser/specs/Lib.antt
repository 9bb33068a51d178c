pub mod Listed
pub mod Seeded
