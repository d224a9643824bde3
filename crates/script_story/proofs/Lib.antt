-- The lemma on a line of a history's script: what it does, by what its words say.
pub mod StoryLemmas
