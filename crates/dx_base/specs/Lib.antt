pub mod Hresult
pub mod SeqLends
pub mod Roomy
pub mod Faults
pub mod Lists
pub mod Each
pub mod Effects
