-- Lemmas on loops over trees: steps of a fold, one subject, ticket or root after another; and on an index, one path after another. What is
-- done to a tree is put together from its parts, and what becomes of the subjects is what is told.
mod Finding
mod Going
mod Indexing
pub mod Growing
mod Noting
mod Resting
mod Searching
mod Shifting
mod Tended
mod Tending
