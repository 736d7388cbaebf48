-- What the programs print for a bench file: the definitions, in reading order. The laws about them are in proofs/.
pub mod Lines
pub mod Report
pub mod Parts
pub mod Rooms
