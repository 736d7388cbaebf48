pub mod CountedLaws
pub mod NeedsLaws
pub mod ProgressLaws
