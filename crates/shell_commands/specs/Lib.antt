-- What each command line asks for, and what it writes: by `clap`'s definition of its words, and by what files and scripts give.
pub mod Hosts
pub mod Asks
pub mod Files
pub mod Print
pub mod Names
pub mod Frame
pub mod Kinds
pub mod CommandLine
pub mod Servers
pub mod Show
pub mod Scripts
pub mod Written
pub mod Tours
pub mod Run
pub mod inner
