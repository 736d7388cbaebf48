pub mod AreaFileLaws
pub mod FromIsisLaws
pub mod LineLaws
pub mod LinkLaws
pub mod ReadAgainLaws
pub mod AppendingLaws
pub mod CellLaws
pub mod IsisTextLaws
