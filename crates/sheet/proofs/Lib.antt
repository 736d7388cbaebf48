pub mod EachLaws
pub mod FollowLaws
pub mod LengthLaws
pub mod SheetLaws
pub mod TurnLaws
pub mod WentLaws
