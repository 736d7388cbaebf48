-- What the programs say of the input that they read. The law about it is in proofs/.
pub mod Streams
