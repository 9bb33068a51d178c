pub mod Names
pub mod Things
pub mod Kinds
pub mod Known
pub mod Forms
pub mod Formed
pub mod Later
