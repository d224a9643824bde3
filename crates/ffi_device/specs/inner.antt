-- What contracts of private functions say: nobody has to believe it.
pub mod Chains
pub mod Contending
pub mod Refused
pub mod Texts
