-- Lemmas on a connection: what is pending and its counts as requests come and go, how long requests are, and how each
-- payload is read, kind by kind.
pub mod Names
pub mod Counting
pub mod Lengths
pub mod Replies
pub mod Arrivals
pub mod Requests
pub mod LawProofs
