pub mod TypeSizes
pub mod TargetLevels
pub mod TargetBoxes
pub mod Copies
pub mod Rows
pub mod Repeats
pub mod Fills
pub mod Kept
