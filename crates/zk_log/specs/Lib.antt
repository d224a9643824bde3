-- What ZooKeeper's transaction logs are: their spelling, their reading with its first fault, and what an entry does to the tree.
pub mod Kinds
pub mod Format
pub mod Reading
pub mod Parts
pub mod Checksum
pub mod Crc
pub mod Digests
pub mod Trees
pub mod Following
pub mod Views
pub mod FaultText
pub mod inner
