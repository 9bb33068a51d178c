pub mod Words
pub mod Tables
pub mod Fields
pub mod LineWords
pub mod Forms
pub mod PrintedWords
pub mod SoundWords
