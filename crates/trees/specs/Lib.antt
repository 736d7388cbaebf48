-- The trees from the destinations: what the search promises, and what only contracts of private functions cite.
pub mod Trees
pub mod Turns
