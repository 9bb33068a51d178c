pub mod BinaryDigits
pub mod Layers
pub mod Rows
pub mod Shapes
