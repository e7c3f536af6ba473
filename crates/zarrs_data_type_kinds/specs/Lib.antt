pub mod Cell
pub mod FillMetadata
pub mod Fills
pub mod Kind
pub mod MetadataV2
pub mod Same
pub mod TypeMetadata
