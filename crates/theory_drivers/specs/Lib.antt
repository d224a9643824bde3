-- A driver over connections to servers of the model: what befalls the servers, and that its client was served by them.
pub mod Acts
pub mod Worlds
pub mod ServedDrivers
pub mod Benches
