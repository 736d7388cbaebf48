-- The order of a change, by next hops alone: the definitions, in reading order. The laws about them are in proofs/.
pub mod Order
pub mod Entered
