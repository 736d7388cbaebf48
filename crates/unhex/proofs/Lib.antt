pub mod UnhexLaws
