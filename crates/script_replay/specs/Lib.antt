-- What a script makes of a client that hears what the script says: its lines, their rules, and what they print, also by the whole past.
pub mod Reads
pub mod Recording
pub mod Records
pub mod CallLines
pub mod ClientLines
pub mod ReplayLines
pub mod Lines
pub mod FaultTexts
pub mod Shown
pub mod Played
pub mod Courses
pub mod Replays
pub mod inner
