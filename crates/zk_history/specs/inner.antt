-- What contracts of private functions say: nobody has to believe it.
pub mod Accepting
pub mod HistoryView
pub mod Made
pub mod Replay
pub mod Versions
