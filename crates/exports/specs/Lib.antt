-- How records, answers and what a file says of itself go over to programs in other languages: as numbers.
pub mod Fields
pub mod Exports
pub mod Places
