-- What contracts of private functions say: nobody has to believe it.
pub mod Given
pub mod Left
pub mod Seen
pub mod Sound
pub mod Steps
