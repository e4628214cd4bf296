-- Laws by subject, then what a reader looks for: the theorems on pieces and turns, the example, and uniqueness.
pub mod Calls
pub mod Replies
pub mod Rest
pub mod Moves
pub mod Pieces
pub mod Turns
pub mod Sends
pub mod Example
pub mod Unique
pub mod Loop
