-- The machine of the steps, as 01 means it: the definitions, in reading order. The laws about them are in proofs/. What
-- each file has is said in src/lib.rt.
pub mod Answers
pub mod Machine
pub mod States
pub mod Kinds
pub mod Run
pub mod Timely
