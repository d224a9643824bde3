-- What the proofs by hand share: what a slot owns may go to another thread, and whoever takes over its fields owns the same.
pub mod Crossing
pub mod Moves
