pub mod Steps
pub mod Coverage
pub mod Beginnings
pub mod FirstPlaces
pub mod Found
pub mod Sound
