-- What is kept of each text's children: what `keep_children` ensures, then `listed` of `keeps_each`.
use Rattle.std.proofs.Common.{◌≡◌, ap, ◌∙◌, w64, arith}
use Rattle.std.proofs.lemmas.Result.{on_ok_weaker}
use mir.Val.{to_z, of_z}
use Rattle.std.proofs.lemmas.Int.{ints}
use Rattle.zk_cache.specs.Cache.{Answers, names_kept}
use Rattle.zk_cache.proofs.CallerLemmas.{keeps_each}
use Rattle.zk_client.proofs.replies.keep_names.Goals as goal

pub returns-clause-children : goal.returns-clause-children
returns-clause-children g c =
    let pzxid : to_z w64 (of_z w64 c.args.pzxid) ≡ c.args.pzxid = omega (arith, ints) in
    let k = keeps_each c.args.cache.now in
    on_ok_weaker c.keep_children.result (λ ok. λ text. ap (λ (x : Answers). names_kept x text) (rw pzxid at ok)
    ∙ k.listed c.args.path _ text) c.keep_children.ensures.ok
