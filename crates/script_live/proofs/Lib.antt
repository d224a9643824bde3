-- Lemmas on a live script, piece by piece and line by line; and that what a whole script prints is what a list of deeds prints.
pub mod HeardLemmas
pub mod LiveLemmas
pub mod TrailLemmas
pub mod GiveLemmas
pub mod Exchanging
pub mod Flowed
pub mod Printing
pub mod Living
