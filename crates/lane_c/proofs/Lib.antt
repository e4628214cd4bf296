-- Laws for the proofs of this crate, and its theorems.
pub mod Blocks
pub mod Words
pub mod Calls
pub mod Serves
pub mod Kept
