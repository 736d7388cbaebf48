pub mod StreamLaws
