-- What contracts of private functions say: nobody has to believe it.
pub mod Answerable
pub mod Answering
pub mod Asking
pub mod Refusals
pub mod Restoring
pub mod Serving
pub mod Stepping
pub mod Watching
pub mod Writing
