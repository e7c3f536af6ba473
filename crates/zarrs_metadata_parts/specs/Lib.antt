pub mod FillValue
pub mod Separator
pub mod Members
pub mod Extension
pub mod Lists
pub mod Refusals
pub mod TypesV2
