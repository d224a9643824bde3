-- What contracts of private functions say: nobody has to believe it.
pub mod Abouts
pub mod Rolls
pub mod Stirred
