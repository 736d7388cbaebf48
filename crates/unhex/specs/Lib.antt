-- What the program writes. The laws about it are in proofs/.
pub mod Unhex
