-- What programs print over connections to servers of the model, or to a server in memory, is what the history has.
pub mod Watched
pub mod Lived
pub mod Benched
pub mod Linked
pub mod Agreeing
