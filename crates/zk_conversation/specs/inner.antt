-- What contracts of private functions say: nobody has to believe it.
pub mod Arrives
pub mod Counted
pub mod Lent
