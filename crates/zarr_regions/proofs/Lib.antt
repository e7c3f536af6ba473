pub mod BandLemmas
pub mod LawLemmas
