-- The arguments of the two loops over the links.
pub mod Pairs
pub mod Linking
pub mod FaultLaws
pub mod FileLaws
pub mod LargestLaws
pub mod ReadLaws
pub mod Reading
