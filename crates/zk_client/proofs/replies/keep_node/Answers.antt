-- What is kept of each text's data: what `keep_data` ensures, then `known` of `keeps_each`.
use Rattle.std.proofs.Common.{ap, ◌∙◌}
use Rattle.std.proofs.lemmas.Result.{on_ok_weaker}
use Rattle.zk_cache.specs.Cache.{Answers, data_kept}
use Rattle.zk_cache.proofs.CallerLemmas.{keeps_each}
use Rattle.zk_client.proofs.replies.keep_node.Goals as goal

pub returns-clause-nodes : goal.returns-clause-nodes
returns-clause-nodes g c =
    let k = keeps_each c.args.cache.now in
    on_ok_weaker c.keep_data.result
    (λ ok. λ text. ap (λ (x : Answers). data_kept x text) ok ∙ k.known c.args.path _ text) c.keep_data.ensures.ok
