pub mod Bands
pub mod Reading
pub mod Sizes
pub mod Storing
pub mod Wanted
