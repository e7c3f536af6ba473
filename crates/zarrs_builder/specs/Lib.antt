pub mod Builders
pub mod Built
pub mod Lending
pub mod Given
