-- Lemmas on drivers and servers: each deed of a driver keeps its client served, with what is under way in the driver counted as on its way.
pub mod Turned
pub mod Unlost
pub mod Heard
pub mod Moved
pub mod Acted
pub mod Served
pub mod Benched
