-- What jute, ZooKeeper's encoding, is: layouts, the one spelling of each value, reading with its first fault, and what a
-- cursor and a fault show.
pub mod Layout
pub mod Spelling
pub mod Reading
pub mod Cursor
pub mod FaultText
pub mod Lenient
pub mod inner
