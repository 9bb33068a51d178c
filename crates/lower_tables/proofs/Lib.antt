pub mod FirstRows
pub mod Marks
pub mod United
pub mod SyncStages
pub mod AccessBits
pub mod ImageLayouts
pub mod StateSides
pub mod TextsBothWays
