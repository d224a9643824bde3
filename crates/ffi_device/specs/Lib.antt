-- What becomes of a device, told by numbers and bytes: its actions one at a time or at once, what is kept of paths, what follows of it, and
-- when the revision of its session rises.
pub mod Actions
pub mod AtOnce
pub mod Chains
pub mod Codes
pub mod Contending
pub mod Credentials
pub mod Flats
pub mod Happenings
pub mod Holders
pub mod Kept
pub mod News
pub mod Outputs
pub mod Refused
pub mod Replies
pub mod Revisions
pub mod Sessions
pub mod Snapshots
pub mod Standings
pub mod Steps
pub mod Subtrees
pub mod Taking
pub mod Texts
pub mod inner
