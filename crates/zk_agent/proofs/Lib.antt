-- Lemmas on an agent: its moves and calls one after the other, what outputs say, and when a server is left or a session ends.
pub mod Breaking
pub mod Closing
pub mod Counting
pub mod Deadlines
mod Grown
pub mod Handing
mod Heads
pub mod Idling
pub mod Keeping
pub mod Leaving
pub mod Lines
pub mod Moves
pub mod Oversized
pub mod Passing
mod Resting
pub mod Saying
mod Spelled
pub mod Tended
pub mod Turning
