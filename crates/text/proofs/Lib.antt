-- What the proofs say of lists and numbers, apart from the code.
pub mod Copying
pub mod PlaceLaws
pub mod Spelling
pub mod TextLaws
pub mod WriterLaws
