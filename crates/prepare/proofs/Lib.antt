pub mod BenchLaws
pub mod GivenLaws
