mod Decodes
pub mod OpenStores
