-- What a watch does and prints, word by word, and which trees it follows.
pub mod Lines
pub mod Trees
pub mod Watching
pub mod inner
