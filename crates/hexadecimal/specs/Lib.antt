-- What a text in hexadecimal comes to. The definitions; the laws about them are in proofs/.
pub mod Hex
pub mod Digits
pub mod Reading
