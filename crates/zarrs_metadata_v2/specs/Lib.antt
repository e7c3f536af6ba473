pub mod Document
pub mod View
