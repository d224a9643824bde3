-- What each call keeps of each text is the lemma `keeps_each`, with nothing added here.
use Rattle.zk_cache.proofs.CallerLemmas.{keeps_each}
use Rattle.zk_cache.proofs.laws.keeps_each_text.Goals as goal

pub returns : goal.returns
returns c = keeps_each
