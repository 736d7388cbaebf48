-- The bench file, as 01 means it: the definitions, in reading order. The laws about them are in proofs/
pub mod Formats
pub mod Sections
pub mod Faults
pub mod Read
