-- Entries of TLV 22, as RFC 5305 and 02 mean them: the definitions. The laws about them are in proofs/.
pub mod Items
