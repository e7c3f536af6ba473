pub mod ArrayData
pub mod Cells
pub mod Parts
pub mod Present
pub mod Offsets
pub mod StringParts
pub mod Places
