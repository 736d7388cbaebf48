-- How many calls a change takes: the definitions. The laws about them are in proofs/.
pub mod Needs
