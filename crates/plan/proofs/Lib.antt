-- The laws of a plan, and what several functions' proofs share.
pub mod Copying
pub mod Applying
pub mod Recording
pub mod Filling
pub mod DirectionLaws
pub mod FilledLaws
pub mod FreshLaws
pub mod MetricLaws
pub mod PlanLaws
pub mod SameLaws
pub mod WaitingLaws
