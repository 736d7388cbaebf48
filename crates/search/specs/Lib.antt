-- The search for one source: what it promises, and what only contracts of private functions cite.
pub mod Rows
pub mod Nearest
pub mod Offers
pub mod Search
