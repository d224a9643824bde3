-- What a client shows and keeps true, step by step and after a whole run; and a session that is put away.
pub mod Views
pub mod FaultText
pub mod Sound
pub mod Steps
pub mod Clients
pub mod Outsides
pub mod Runs
pub mod SavedSessions
pub use Rattle.zk_turns.specs.Turns
pub use Rattle.zk_turns.specs.View
pub use Rattle.zk_turns.specs.Rule
pub use Rattle.zk_turns.specs.Ranges
pub use Rattle.zk_nodes.specs.History
pub use Rattle.zk_laws.specs.Headline
pub use Rattle.zk_laws.specs.Served
pub mod inner
