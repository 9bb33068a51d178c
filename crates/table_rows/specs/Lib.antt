pub mod WaitedFences
