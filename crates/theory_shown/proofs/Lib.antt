-- Proofs that what is printed is the history's: beside each deed of a driver servers of the model make their moves, and
-- the history may go on.
pub mod Going
pub mod Watched
pub mod Lived
pub mod Benched
pub mod Starting
pub mod Agreeing
pub mod Waiting
pub mod Linked
pub mod Dialled
