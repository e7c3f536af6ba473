pub mod FilterLemmas
pub mod ConversionLaws
