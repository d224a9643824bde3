-- What contracts of private functions say: nobody has to believe it.
pub mod Refused
pub mod Known
