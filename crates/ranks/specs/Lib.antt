-- Chains of waiting and ranks: the definitions. The laws about them are in proofs/.
pub mod Rank
