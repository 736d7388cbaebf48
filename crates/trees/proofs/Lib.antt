pub mod Visiting
pub mod Offering
pub mod Turning
pub mod Dijkstra
pub mod Growing
pub mod TreesLaws
