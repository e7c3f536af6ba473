pub mod Asked
pub mod BandLemmas
pub mod Stored
pub mod WantedLemmas
