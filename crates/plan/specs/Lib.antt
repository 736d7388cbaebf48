-- The plan of one change, as 01 means it: the definitions, in reading order. The laws about them are in proofs/.
pub mod NewMetrics
pub mod Direction
pub mod Waiting
pub mod Plan
pub mod Planned
pub mod Parts
