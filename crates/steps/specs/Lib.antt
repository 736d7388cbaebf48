-- What the functions of this crate promise, in terms of the machine.
pub mod Outcomes
pub mod Lent
