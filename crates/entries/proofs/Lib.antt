pub mod DifferentLaws
pub mod EachLaws
pub mod EntryLaws
pub mod ListLaws
pub mod SeenLaws
