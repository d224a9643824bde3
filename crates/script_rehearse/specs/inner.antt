-- What contracts of private functions say: nobody has to believe it.
pub mod BenchLines
pub mod Coherent
pub mod Good
pub mod RehearseLines
pub mod Rehearsed
pub mod Scenes
pub mod Scripts
