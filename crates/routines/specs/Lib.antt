pub mod Cells
pub mod Uses
pub mod Touches
pub mod Numbers
pub mod Puts
pub mod Effect
pub mod Actions
pub mod Laws
