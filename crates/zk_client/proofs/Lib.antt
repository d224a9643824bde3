-- Lemmas on a client: each happening (a reply, a notice, a call, a deadline) leaves the parts as the definitions say, and
-- turns follow one another.
pub mod Pendings
pub mod CacheLemmas
pub mod Ends
pub mod Rooms
pub mod Asked
pub mod Decided
pub mod Parts
pub mod Welcomes
pub mod Answered
pub mod Came
pub mod Heard
pub mod Turning
pub mod Whole
pub mod Holding
pub mod Deadlines
pub mod Behind
pub mod Reports
pub mod SameClients
pub mod PuttingAway
