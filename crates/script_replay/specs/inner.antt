-- What contracts of private functions say: nobody has to believe it.
pub mod Courses
pub mod Lines
pub mod Played
pub mod Replays
