-- The lemma on fences: the greatest token never falls, so a lower one is refused from then on.
pub mod Fencing
