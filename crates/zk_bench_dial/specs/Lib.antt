-- Servers in memory at the far end of connections.
pub mod BenchActs
pub mod Lines
