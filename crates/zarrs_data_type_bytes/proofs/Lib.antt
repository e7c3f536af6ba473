pub mod Cells
pub mod Filled
pub mod Fills
pub mod Fixed
pub mod FixedSizes
pub mod Made
pub mod Parts
pub mod Pieces
mod Places
pub mod Presence
pub mod Spread
pub mod Validity
mod Periods
pub mod ByteStrings
mod NumberCells
mod Placed
mod Joins
mod SharedBoxes
mod Cuts
mod Rows
mod BoxRows
mod AsciiTexts
mod Gathering
