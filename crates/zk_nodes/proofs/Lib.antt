-- Lemmas on texts and sets of names: one pass over the bytes of a text finds what the definition of a path says, and a set
-- of texts is a set of names.
pub mod PathLemmas
pub mod PathTexts
pub mod PlainLanes
pub mod PlainLemmas
pub mod Children
pub mod NamesLemmas
