-- Proofs that a line does what its bench does, and that the history stays.
pub mod Staying
pub mod Acting
pub mod Serving
pub mod Passing
pub mod Meeting
