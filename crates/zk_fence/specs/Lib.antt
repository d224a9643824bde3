-- Which writes a store takes, by their tokens, and what such a fence is worth.
pub mod Fences
pub mod Fenced
