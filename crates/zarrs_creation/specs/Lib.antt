pub mod Meanings
pub mod Making
pub mod Sets
pub mod Opening
pub mod Shown
pub mod Writing
pub mod Changes
