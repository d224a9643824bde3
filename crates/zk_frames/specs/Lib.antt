-- What a frame is, and how a stream that is fed in pieces is given in frames.
pub mod Frame
pub mod FaultText
pub mod Held
pub mod Limits
pub mod Next
pub mod Stream
pub mod inner
