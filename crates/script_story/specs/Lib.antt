-- What a script makes of a history: its lines, and what each prints.
pub mod HistoryLines
pub mod Answers
pub mod Stories
pub mod inner
