-- What contracts of private functions say: nobody has to believe it.
pub mod Holders
pub mod Lacks
pub mod Predecessors
pub mod Walks
