-- A name is told exactly where a child of this name is there: the walk over the versions starts from no names and ends with those of
-- the replay, by the index's invariant, and these name the children that are there, by `names_later-children`.
use Rattle.std.proofs.Common.{◌≡◌, List, ◌∷◌, is_some, map, sym, ap, ◌∙◌}
use Rattle.std.specs.FinSet as set
use Rattle.std.specs.String.{string_bytes}
use Rattle.zk_history.specs.declared.change.Transaction.{Transaction}
use Rattle.zk_nodes.specs.History.{tree_at}
use Rattle.zk_nodes.specs.Path.{path_of}
use Rattle.zk_history.specs.Made.{transaction_of}
use Rattle.zk_nodes.specs.Names.{Names}
use Rattle.zk_nodes.specs.inner.Names.{names_of}
use Rattle.zk_history.specs.HistoryView.{HistoryView, history_of}
use Rattle.zk_history.specs.Replay.{children_at}
use Rattle.zk_history.specs.Versions.{versions_of, names_told}
use Rattle.zk_nodes.proofs.NamesLemmas.{contains-names_of}
use Rattle.zk_history.proofs.ViewLemmas.{names_first, names_later-children, no_names}
use Rattle.zk_history.proofs.history.History.names.Goals as goal

pub returns : goal.returns
returns g c = λ name.
    let kept : HistoryView = record {
      nodes = map transaction_of c.self.inside.nodes.items;
      transactions = map transaction_of c.self.inside.transactions.items;
    } in
    let p = path_of c.args.at.now in
    let none = no_names string_bytes c.new-names.result.keys c.new-names.ensures.empty in
    let made : List (Transaction g.row.A.Denot) → List (Transaction g.row.A.Denot)
    → HistoryView = λ xs ys. record { nodes = map transaction_of xs; transactions = map transaction_of ys } in
    let vs = c.versions_at.result.now in
    let empty = names_of c.new-names.result in
    let all : names_of c.names_after_versions.new.names ≡ children_at c.args.z p kept.transactions (names_first kept p) =
    c.in_ok-names_after_versions.ensures
    ∙ ap (λ (xs : List (Transaction g.row.A.Denot)). names_told (made xs c.as_slice-2.result.now) p c.args.z vs empty)
    c.as_slice.ensures.value
    ∙ ap (λ (ys : List (Transaction g.row.A.Denot)). names_told (made c.self.inside.nodes.items ys) p c.args.z vs empty)
    c.as_slice-2.ensures.value
    ∙ ap (λ ws. names_told kept p c.args.z ws empty) c.versions_at.ensures
    ∙ ap (names_told kept p c.args.z (versions_of c.self.inside.versions c.args.at.now)) none
    ∙ c.self.invariant.1.names c.args.at.now c.requires c.args.z in
    sym (contains-names_of c.names_after_versions.new.names name)
    ∙ ap (λ (s : Names). set.contains s name) all
    ∙ names_later-children kept c.args.z p c.self.invariant.0 name
    ∙ ap (λ (k : HistoryView). is_some (tree_at (history_of k) c.args.z (name ∷ p))) c.self.view_is
