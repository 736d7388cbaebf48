pub mod Ends
pub mod OutcomeLaws
