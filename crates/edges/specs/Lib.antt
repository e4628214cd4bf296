pub mod Names
pub mod Shape
pub mod Checks
pub mod Order
pub mod Steps
pub mod Records
pub mod Desk
