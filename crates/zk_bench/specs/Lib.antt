-- What servers in memory over one history show and do, in the words of the laws: what is answered, told, refused and written.
pub mod Served
pub mod Linked
pub mod Front
pub mod Refusals
pub mod Serving
pub mod Answering
pub mod Stepping
pub mod Answerable
pub mod Writing
pub mod inner
