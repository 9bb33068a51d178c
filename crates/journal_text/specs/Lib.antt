pub mod Items
pub mod Names
pub mod Reading
pub mod Texts
pub mod Printing
pub mod Sound
pub mod Laws
