-- What becomes of a server in memory, told by numbers: changes as a caller names them, and why one is refused.
pub mod Changes
pub mod Codes
pub mod Moves
pub mod Refused
pub mod inner
