-- What a script makes of a history, and of a client with servers in memory over it: its lines, their rules, and what they print.
pub mod BenchLines
pub mod RehearseLines
pub mod Heard
pub mod Good
pub mod Scenes
pub mod Rehearsed
pub mod Scripts
pub mod inner
