-- What Paths answers and fills, as 01 means it: the definition, and what an input is that it accepts.
pub mod Paths
pub mod Ready
