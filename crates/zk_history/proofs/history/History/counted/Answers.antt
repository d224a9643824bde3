-- The count kept with a path's last version is the number of its children: `count_is`, and `same_count` for any other set of these names.
-- That it fits in a `Stat` is `count_small`.
use Rattle.std.proofs.Common.{◌≤◌, ℕ, sym, subst, ◌∙◌}
use Rattle.zk_nodes.specs.Path.{path_of}
use Rattle.zk_nodes.specs.History.{tree_at}
use Rattle.zk_history.specs.HistoryView.{history_of}
use Rattle.zk_history.specs.Replay.{children_at}
use Rattle.zk_history.proofs.IndexLemmas.{count_is, count_small}
use Rattle.zk_history.proofs.ViewLemmas.{names_first, names_later-children, same_count}
use Rattle.zk_history.proofs.history.History.counted.Goals as goal

pub returns-clause-counted : goal.returns-clause-counted
returns-clause-counted g c = λ names h.
    let kept = c.args.self.now in
    let p = path_of c.args.at.now in
    c.children_of.ensures ∙ c.version.ensures.count ∙ count_is kept c.args.z p c.version.ensures.sound
    ∙ same_count (tree_at (history_of kept) c.args.z) p (children_at c.args.z p kept.transactions (names_first kept p)) names
    (names_later-children kept c.args.z p c.version.ensures.sound) h

pub returns-clause-few : goal.returns-clause-few
returns-clause-few g c =
    subst (λ (n : ℕ). n ≤ 2147483647) (sym (c.children_of.ensures ∙ c.version.ensures.count))
    (count_small c.args.self.now c.args.z (path_of c.args.at.now) c.version.ensures.sound)
