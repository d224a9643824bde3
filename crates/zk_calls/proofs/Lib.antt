-- Lemmas on a line of calls: lists in order by their places, how many are handed over, tickets that rise, and the first limit.
pub mod Answering
pub mod Handed
pub mod Orders
pub mod Places
pub mod Rising
pub mod Soonest
