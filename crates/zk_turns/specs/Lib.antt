-- What a client does, in words of its inputs and outputs: each turn, what a client shows by all that happened, and what
-- calls, frames and reports mean.
pub mod Turns
pub mod Past
pub mod View
pub mod Taken
pub mod Rule
pub mod Tickets
pub mod Sent
pub mod Reported
pub mod Meaning
pub mod Spelled
pub mod Causes
pub mod Ranges
