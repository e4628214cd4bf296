pub mod Serve
pub mod Desk
pub mod Loop
