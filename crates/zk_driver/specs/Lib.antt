-- How far a driver has come, what goes through it byte by byte, and what has happened to its connections.
pub mod Driving
pub mod Flowing
pub mod Noting
pub mod Places
pub mod StopText
pub mod inner
