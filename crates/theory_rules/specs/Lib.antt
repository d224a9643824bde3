-- Rules of a client in words of their own: how zxids, calls, moments, notices and answers hang together.
pub mod Seeing
pub mod Closing
pub mod Ticking
pub mod Xids
pub mod Rules
pub mod Missed
pub mod Next
pub mod Told
pub mod Leads
