pub mod Status
pub mod Text
pub mod History
pub mod Left
pub mod Output
pub mod StalledLines
