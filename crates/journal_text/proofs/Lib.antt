pub mod TextSteps
pub mod TakenBytes
pub mod LinesBack
pub mod PlainLines
pub mod JournalsBack
