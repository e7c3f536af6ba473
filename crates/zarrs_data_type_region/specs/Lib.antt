pub mod RegionData
pub mod Targets
pub mod States
