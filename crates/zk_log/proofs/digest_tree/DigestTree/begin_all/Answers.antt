-- Four nodes are put, one after another.
use Rattle.std.proofs.Common.{◌≡◌, ap, ◌∙◌}
use Rattle.std.proofs.lemmas.Result.{on_ok_weaker}
use Rattle.std.specs.Prelude.{codes}
use Rattle.zk_log.specs.Trees.{first_at}
use Rattle.zk_log.proofs.digest_tree.DigestTree.begin_all.Goals as goal

pub returns : goal.returns
returns g c =
    on_ok_weaker c.begin-4.result
    (λ done. done ∙ ap (first_at (codes "/zookeeper/config")) (c.in_ok-begin-3.ensures
    ∙ ap (first_at (codes "/zookeeper/quota")) (c.in_ok-begin-2.ensures
    ∙ ap (first_at (codes "/zookeeper")) c.in_ok-begin.ensures)))
    c.begin-4.ensures
