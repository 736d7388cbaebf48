-- What the contracts of `text` say: the definitions. The laws about them are proofs/TextLaws.antt.
pub mod Text
