-- The bench file of an area, by its metric table and by link-state data: the definitions. The laws about them are in
-- proofs/.
pub mod AreaFile
pub mod FromIsis
