-- The running sheet: the definitions. The laws about them are in proofs/.
pub mod Sheet
pub mod Follow
