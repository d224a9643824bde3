-- What is told of the bytes of a connection: the words of each record and frame, and the lines of a capture.
pub mod Ways
pub mod Names
pub mod Words
pub mod Records
pub mod Asked
pub mod Frames
pub mod Streams
pub mod Lines
pub mod inner
