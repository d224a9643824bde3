-- What a link is to its caller: an address in words, and a stream that knows which bytes came and went.
pub mod Hosts
pub mod Written
pub mod Streams
pub mod FarEnds
