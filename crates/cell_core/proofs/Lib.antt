pub mod TextLaws
pub mod LabelLaws
pub mod PieceLaws
pub mod KeyLaws
pub mod SlotLaws
