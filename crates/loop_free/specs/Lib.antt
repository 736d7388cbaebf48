-- Demand 3, as 01 means it: the claim, and then the same in terms of what the code hands back. Both theorems, and an
-- example, are in proofs/.
pub mod LoopFree
pub mod HandedBack
