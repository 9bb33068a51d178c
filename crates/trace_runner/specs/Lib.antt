pub mod Rounds
pub mod Moments
pub mod Steps
pub mod Report
pub mod Laws
pub mod Words
