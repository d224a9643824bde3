-- Lemmas on what is told, each by one more step: a field after fields, a frame after frames, and the entry that a reply adds.
mod AnswerLemmas
mod FieldLemmas
mod StreamLemmas
