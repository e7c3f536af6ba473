pub mod Order
pub mod Fields
