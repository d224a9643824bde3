-- What contracts of private functions say: nobody has to believe it.
pub mod Flowing
pub mod Heard
pub mod Lines
