-- What contracts of private functions say: nobody has to believe it.
pub mod Driving
pub mod Flowing
pub mod Noting
pub mod Reads
