-- What the proof of the loop says of a text that is decoded in part, apart from the code (Decoding), and the laws.
pub mod Decoding
pub mod BinaryLaws
pub mod CommentLaws
pub mod FaultLaws
pub mod HexLaws
pub mod PairLaws
pub mod PrintingLaws
pub mod ReadingLaws
pub mod ByteLaws
pub mod ControlLaws
pub mod DigitLaws
