pub mod FilledLaws
pub mod PathsLaws
