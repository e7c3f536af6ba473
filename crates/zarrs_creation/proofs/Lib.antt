pub mod Order
pub mod Openings
pub mod Named
pub mod Normal
pub mod Names
pub mod Changed
pub mod Grids
