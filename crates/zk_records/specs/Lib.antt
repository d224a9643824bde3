-- The records of ZooKeeper's protocol: their fields in wire order, the numbers of operations, codes and events, and how
-- requests and replies are read.
pub mod Asked
pub mod Codes
pub mod Events
pub mod FaultText
pub mod Layouts
pub mod OpenAcl
pub mod Operations
pub mod Reply
pub mod Request
pub mod Response
pub mod Views
pub mod inner
