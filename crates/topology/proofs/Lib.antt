pub mod CellLaws
pub mod DistanceLaws
pub mod LargestLaws
pub mod NextHopLaws
pub mod ReversalLaws
pub mod SumLaws
pub mod TopologyLaws
pub mod WalkLaws
