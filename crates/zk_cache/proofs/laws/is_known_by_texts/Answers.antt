-- Caches that keep the same of each text are one: that is the lemma `same_answers`.
use Rattle.zk_cache.proofs.CallerLemmas.{same_answers}
use Rattle.zk_cache.proofs.laws.is_known_by_texts.Goals as goal

pub returns : goal.returns
returns c = same_answers
