-- What contracts of private functions say: nobody has to believe it.
pub mod Following
pub mod Owning
pub mod Reported
pub mod Places
pub mod Resting
