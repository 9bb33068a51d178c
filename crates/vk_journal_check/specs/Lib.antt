pub mod StepChecks
pub mod FirstFaults
