pub mod ElementCells
pub mod StringCells
pub mod FlagCells
pub mod OptionCells
pub mod OptionNumbers
