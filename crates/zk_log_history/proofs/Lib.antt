-- Changes one after another, and what is known of sessions and their nodes.
pub mod Operations
pub mod Changing
pub mod Deletions
pub mod Sessions
pub mod Newest
pub mod Entries
pub mod Owned
pub mod Ended
pub mod Refused
pub mod Outcomes
pub mod Known
pub mod KnownIsTrue
pub mod PathRefused
