pub mod Members
pub mod Fields
pub mod Document
pub mod View
pub mod Reading
pub mod Refusals
pub mod Reasons
