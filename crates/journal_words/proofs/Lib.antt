pub mod Colons
pub mod WordPlaces
pub mod WordsBack
pub mod SetsBack
