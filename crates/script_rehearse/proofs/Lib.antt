-- Lemmas on a rehearsal: line by line its client stays served by servers of the laws, so its good answers agree with the history.
pub mod GoodLemmas
pub mod HeardLemmas
pub mod DueLemmas
pub mod RigLemmas
pub mod Hearing
pub mod ServedLines
pub mod Agreeing
mod ScriptLemmas
