-- What contracts of private functions say: nobody has to believe it.
pub mod Agents
pub mod Calls
pub mod Credentials
pub mod Replies
pub mod Waits
