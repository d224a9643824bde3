-- Lemmas on the lists of a registry: a map's rows in the order of their numbers are the lists, each call keeps that, and
-- the parts are as full as may be.
pub mod RowLemmas
pub mod OrderLemmas
pub mod CallerLemmas
pub mod SoundLemmas
pub mod CutLemmas
pub mod GreedyLemmas
pub mod PartsLemmas
pub mod PutLemmas
pub mod PlaceLemmas
pub mod RankLemmas
