pub mod Sweep
pub mod Relaxing
pub mod Dijkstra
pub mod Settling
pub mod RowsLaws
