-- Areas from IS-IS, as 02 means them: the definitions, in reading order. The laws about them are in proofs/
pub mod Identities
pub mod Lists
pub mod Isis
pub mod Rows
