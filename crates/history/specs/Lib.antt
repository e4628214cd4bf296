pub mod History
pub mod Verdict
pub mod Axioms
pub mod Examples
pub mod Bytes
