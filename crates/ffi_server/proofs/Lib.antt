-- Lemmas on what is not done: a node whose Stat tells children has some, and where memory ran out the connection is given up.
pub mod Refusing
