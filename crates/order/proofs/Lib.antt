-- The laws of the order, and what several functions' proofs share.
pub mod Converse
pub mod EnteringLaws
pub mod OrderLaws
