pub mod Order
pub mod OneList
