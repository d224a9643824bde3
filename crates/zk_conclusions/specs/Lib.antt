-- What follows from what a client shows: of one tree, of all nodes below a path, of who is first and who holds.
pub mod Seen
pub mod Snapshots
pub mod Looks
pub mod Subtrees
pub mod Walks
pub mod Lacks
pub mod Holders
pub mod Numbers
pub mod Kinds
pub mod Standings
pub mod Predecessors
pub mod Tags
pub mod Revisions
pub mod Everywhere
pub mod inner
