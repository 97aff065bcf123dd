pub mod KeyTexts
pub mod Tags
