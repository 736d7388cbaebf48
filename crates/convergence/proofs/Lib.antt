pub mod PointerLaws
pub mod ThroughRoot
pub mod Separation
pub mod NoLoop
pub mod Arrival
pub mod ConvergenceLaws
