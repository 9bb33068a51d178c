pub mod Sufficient
pub mod Runs
pub mod Waits
pub mod FenceList
pub mod Endings
pub mod Fence
pub mod Laws
