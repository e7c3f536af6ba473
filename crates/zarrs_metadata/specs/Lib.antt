pub mod Conversion
pub mod Refusals
pub mod Versions
