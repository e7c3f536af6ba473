pub mod MemberLemmas
pub mod ExtensionLaws
pub mod ListLemmas
