pub mod Layouts
mod WritingCalls
pub mod Puts
pub mod Typed
pub mod Named
pub mod Trips
pub mod Regridded
mod Short
mod Apart
mod Reopened
mod OpeningReach
mod Upgrade
mod Counts
mod Upgraded
mod Loans
