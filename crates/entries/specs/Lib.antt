-- Lists of entries of five bytes: the definitions. The laws about them are in proofs/.
pub mod Each
pub mod Entries
pub mod Seen
