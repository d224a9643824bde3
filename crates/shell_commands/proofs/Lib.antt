-- Lemmas on command lines: words and forms one by one, words that are the same, files by their bytes, the fields of a record by
-- induction, and a script that reads nothing.
pub mod ScriptLemmas
pub mod AddressLemmas
pub mod FileLemmas
pub mod FormLemmas
pub mod FieldLemmas
pub mod VerbLemmas
pub mod ServerLemmas
