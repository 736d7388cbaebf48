pub mod CountLaws
pub mod EntryLaws
pub mod FourLaws
pub mod MembersLaws
pub mod SetLaws
pub mod VisitLaws
