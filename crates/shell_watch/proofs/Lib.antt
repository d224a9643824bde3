-- Lemmas on a watch: what it prints is made piece by piece, and what it does is, byte by byte, a run of its driver.
mod Ending
mod Objects
mod Pieces
mod Printing
mod Showing
mod Telling
pub mod Running
