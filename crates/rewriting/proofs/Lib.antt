pub mod LiveLaws
pub mod RewritingLaws
pub mod AppendingLaws
