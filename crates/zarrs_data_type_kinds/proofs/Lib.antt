pub mod Same
pub mod Sizes
pub mod Values
pub mod TypeNames
pub mod TypeReading
pub mod FillWriting
