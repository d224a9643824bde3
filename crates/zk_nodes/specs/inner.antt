-- What contracts of private functions say: nobody has to believe it.
pub mod Names
pub mod Path
pub mod Plain
