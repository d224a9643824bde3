-- What a server in memory shows and does, as moves of servers in a schedule; and one whole schedule in bytes.
pub mod GoingOn
pub mod Steps
pub mod Shown
pub mod Wires
pub mod Whole_example
pub mod inner
