-- Lemmas on servers in memory: the request in a payload is found, each kind of it is a step of a server of the laws, and
-- its reply fits a frame.
mod Fields
mod Framing
pub mod Continuing
pub mod Watched
pub mod Placed
pub mod Answered
pub mod Staying
pub mod Sized
pub mod Admitted
pub mod Restored
pub mod Stepped
pub mod Asked
pub mod Processed
pub mod ProcessedLooks
pub mod ProcessedTaken
pub mod ProcessedWrites
pub mod ProcessedFirst
pub mod Called
pub mod Written
pub mod Allowed
