-- Lemmas on a replay, line by line: a client stands where all that its lines made happen has led.
pub mod Copying
pub mod SetLemmas
pub mod PlayLemmas
pub mod CourseLemmas
