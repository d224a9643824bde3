-- What contracts of private functions say: nobody has to believe it.
pub mod Contents
pub mod Covered
pub mod Cuts
pub mod Renewed
