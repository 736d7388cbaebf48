pub mod ItemLaws
pub mod AfterLaws
