-- What a handle on a server in memory owns, and what it holds after each call.
pub mod Held
