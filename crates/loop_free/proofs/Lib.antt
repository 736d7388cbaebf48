pub mod HandedBackLaws
pub mod LoopFreeLaws
pub mod Examples
