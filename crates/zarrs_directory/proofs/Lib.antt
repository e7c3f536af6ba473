pub mod ExcerptLemmas
pub mod NameLemmas
pub mod StoreLemmas
