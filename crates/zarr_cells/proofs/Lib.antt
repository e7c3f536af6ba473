pub mod AsciiLemmas
pub mod BlankLemmas
pub mod LineLemmas
pub mod ListLemmas
pub mod RowLemmas
pub mod WordLemmas
mod LawLemmas
