-- A bench file before its first step. The laws about it are in proofs/
pub mod Bench
