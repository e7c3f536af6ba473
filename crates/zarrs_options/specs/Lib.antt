pub mod Options
pub mod Errors
pub mod Refusals
pub mod Given
pub mod Lending
