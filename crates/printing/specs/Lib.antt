-- What the programs print. The laws that it rests on are those of streams and report.
pub mod Printing
