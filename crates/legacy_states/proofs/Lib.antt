pub mod ReadUnions
pub mod Promotions
pub mod Decays
