-- The laws of ranks, and what several functions' proofs share.
pub mod Rounds
pub mod RankLaws
