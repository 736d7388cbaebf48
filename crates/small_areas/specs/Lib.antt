-- The small areas of 01, worked out by hand there and computed here. First what can be asked of a bench file, then the
-- list. Its theorem is in proofs/.
pub mod Questions
pub mod SmallAreas
