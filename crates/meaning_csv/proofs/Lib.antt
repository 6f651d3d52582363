pub mod DifferentLaws
