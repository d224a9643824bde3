-- Lemmas on words and lines: a text in pieces, lines one after another, and a script from one line to the next.
mod PiecesLemmas
pub mod LineLemmas
pub mod NamesLemmas
mod ScriptLemmas
pub mod ReadLemmas
