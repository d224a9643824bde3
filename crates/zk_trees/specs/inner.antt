-- What contracts of private functions say: nobody has to believe it.
pub mod Tending
pub mod Trees
