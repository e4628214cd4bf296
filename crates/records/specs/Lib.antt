pub mod Answers
pub mod Format
pub mod Promises
pub mod Kinds
