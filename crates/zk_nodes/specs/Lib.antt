-- Paths and names, the fields of a Stat, and the data model: nodes, trees, and histories of transactions.
pub mod Path
pub mod PathFault
pub mod FaultText
pub mod Names
pub mod StatLayout
pub mod DataStats
pub mod History
pub mod Laws
pub mod inner
