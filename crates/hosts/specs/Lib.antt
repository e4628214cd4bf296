pub mod Refusals
pub mod Calls
pub mod Serves
pub mod Mixed
