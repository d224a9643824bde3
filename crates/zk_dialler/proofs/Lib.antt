-- Lemmas on pauses and orders: a pause is bounded by the failures so far, a shuffle goes on with one place fewer, and groups lose no place.
pub mod Grouping
pub mod PauseLemmas
pub mod Shuffling
