pub mod Rules
pub mod Clean
