-- What a history of trees keeps and shows: its versions of each path, the replay that says what they are, and when a change is refused.
pub mod FaultText
pub mod Replay
pub mod HistoryView
pub mod Made
pub mod Shown
pub mod Refused
pub mod Versions
pub mod inner
