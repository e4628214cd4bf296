-- Laws for the proofs of this crate and of those above it.
pub mod Tests
pub mod Laws
pub mod Words
pub mod Writes
pub mod Scan
pub mod Skip
pub mod Looks
pub mod Tables
pub mod Meaning
