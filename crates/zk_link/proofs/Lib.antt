-- The lemmas on streams: what reads and writes do to the bytes that a stream knows, one after the other.
pub mod Streaming
pub mod Reaching
