-- Lemmas on what is heard of a driver, and on a walk through a tree, one node after another.
pub mod Hearing
pub mod Walking
