-- Laws for the proofs of this crate and of those above it, and its theorems.
pub mod Places
pub mod Tests
pub mod Rows
pub mod Cases
pub mod Refusals
pub mod Exact
pub mod Keeps
pub mod Run
pub mod Situations
pub mod Unique
pub mod Checks
pub mod Spent
pub mod Quick
pub mod Ends
