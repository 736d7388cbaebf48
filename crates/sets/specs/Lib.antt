-- Router sets, their members, how many they are, and the four lowest: the definitions. The laws about them are in
-- proofs/.
pub mod Sets
pub mod Counts
pub mod Members
pub mod Four
