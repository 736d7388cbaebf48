pub mod ChangeLaws
pub mod RootLaws
pub mod SameLaws
