-- The test of `takes` decides (`accepted_by`, `refused_by`). A node that is taken leaves the history sound (`IsSound-node`) and its
-- versions right (`IsIndexed-node`); a refusal for memory leaves the versions as they were (`IsIndexed-same`, `noted_forgotten`).
use Rattle.std.proofs.Common.{◌≡◌, refl, pos, List, map, sym, ap, ◌∙◌, subst, arith, length, to_z, of_z, w64}
use Rattle.std.proofs.lemmas.List.{length-map}
use Rattle.std.proofs.lemmas.Bool.Decides.{nat_tests}
use Rattle.std.specs.Option.{option_map}
use Rattle.zk_nodes.specs.History as model
use Rattle.zk_nodes.specs.Path.{path_of}
use Rattle.zk_nodes.specs.History.{Creates}
use Rattle.zk_history.specs.Made.{change_of, transaction_of}
use Rattle.zk_history.specs.HistoryView.{HistoryView, IsSound, newest_tree, IsAccepted}
use Rattle.zk_history.proofs.ViewLemmas.{refused_by, accepted_by, IsSound-node, was_empty}
use Rattle.zk_history.specs.declared.version.Origin.TheVariants.{First}
use Rattle.zk_history.specs.Versions.{versions_of, IsIndexed}
use Rattle.zk_history.specs.inner.Versions.{versions_after, versions_before}
use Rattle.zk_history.proofs.VersionsLemmas.{on_err_is, on_ok_is}
use Rattle.zk_history.proofs.IndexLemmas.{can_be_noted, IsIndexed-node, IsIndexed-same}
use Rattle.zk_history.proofs.SmallLemmas.{noted_forgotten}
use Rattle.zk_history.proofs.history.History.node.Goals as goal

pub returns-then-not-takes-clause-refused : goal.returns-then-not-takes-clause-refused
returns-then-not-takes-clause-refused g c =
    let l : length c.self.inside.transactions.items ≡ 0 = grind (arith, nat_tests) in (
      was_empty transaction_of c.self.inside.transactions.items
          (map transaction_of c.self.inside.nodes.items) c.args.self.now c.self.view_is l,
      refused_by c.args.self.now (Creates (path_of c.args.path) (option_map (λ v. v.items) c.args.bytes) (pos 0)) c.takes.result
          (subst IsSound c.self.view_is c.self.invariant.0) c.takes.ensures c.if-not-takes.true,
    )

pub returns-clause-accepted : goal.returns-clause-accepted
returns-clause-accepted g c =
    accepted_by c.args.self.now (Creates (path_of c.args.path) (option_map (λ v. v.items) c.args.bytes) (pos 0)) c.takes.result
    (subst IsSound c.self.view_is c.self.invariant.0) c.takes.ensures c.if-not-takes.false

pub note-requires : goal.note-requires
note-requires g c =
    let kept : HistoryView = record {
      nodes = map transaction_of c.self.inside.nodes.items;
      transactions = map transaction_of c.self.inside.transactions.items;
    } in
    let accepted = accepted_by c.args.self.now (Creates (path_of c.args.path) (option_map (λ v. v.items) c.args.bytes) (pos 0))
    c.takes.result (subst IsSound c.self.view_is c.self.invariant.0) c.takes.ensures c.if-not-takes.false in
    let here = subst (λ (k : HistoryView). IsAccepted (Creates (path_of c.args.path) (option_map (λ v. v.items) c.args.bytes) (pos 0))
    (newest_tree k)) (sym c.self.view_is) accepted in
    record {
      fits = can_be_noted kept (versions_of c.self.inside.versions)
          (Creates (path_of c.args.path) (option_map (λ v. v.items) c.args.bytes) (pos 0)) c.self.invariant.0 c.self.invariant.1 here;
    }

pub invariant_of-self : goal.invariant_of-self
invariant_of-self g c = (
  c.self.invariant.0,
  IsIndexed-same _ (versions_of c.self.inside.versions) (versions_of c.note.new.versions)
      (λ text is. on_err_is c.note.result c.is_err.result c.is_err.ensures.value c.if-is_err.true c.note.ensures.err text)
      c.self.invariant.1,
)

pub returns-then-is_err-clause-refused : goal.returns-then-is_err-clause-refused
returns-then-is_err-clause-refused g c =
    let l : length c.self.inside.transactions.items ≡ 0 = grind (arith, nat_tests) in
    let none = was_empty transaction_of c.self.inside.transactions.items
    (map transaction_of c.self.inside.nodes.items) c.args.self.now c.self.view_is l in
    let accepted = accepted_by c.args.self.now (Creates (path_of c.args.path) (option_map (λ v. v.items) c.args.bytes) (pos 0))
    c.takes.result (subst IsSound c.self.view_is c.self.invariant.0) c.takes.ensures c.if-not-takes.false in
    (none, accepted)

pub invariant_of-self-in-Err : goal.invariant_of-self-in-Err
invariant_of-self-in-Err g c =
    let kept : HistoryView = record {
      nodes = map transaction_of c.self.inside.nodes.items;
      transactions = map transaction_of c.self.inside.transactions.items;
    } in
    let P : List model.Transaction → Type 0 = λ ns.
    IsSound (record { nodes = ns; transactions = map transaction_of c.self.inside.transactions.items })
    × IsIndexed (record { nodes = ns; transactions = map transaction_of c.self.inside.transactions.items })
    (versions_of c.forget.new.versions) in
    let same = IsIndexed-same kept (versions_of c.self.inside.versions) (versions_of c.forget.new.versions)
    (λ text is. noted_forgotten 0 _ (First c.len.result) text (Creates (path_of c.args.path) (option_map (λ v. v.items) c.args.bytes)
    (pos 0)) (versions_of c.self.inside.versions text) (versions_of c.note.new.versions text) (versions_of c.forget.new.versions text)
    (on_ok_is c.note.result c.is_err.result c.is_err.ensures.value c.if-is_err.false c.note.ensures.ok text is) (c.forget.ensures text is
    ∙ ap (λ change. versions_before text (change_of change) (versions_of c.note.new.versions text)) c.in-Err.ensures.back))
    c.self.invariant.1 in
    subst P (sym c.in-Err.ensures.err) (c.self.invariant.0, same)

pub returns-in-Err-clause-refused : goal.returns-in-Err-clause-refused
returns-in-Err-clause-refused g c =
    let l : length c.self.inside.transactions.items ≡ 0 = grind (arith, nat_tests) in
    let none = was_empty transaction_of c.self.inside.transactions.items
    (map transaction_of c.self.inside.nodes.items) c.args.self.now c.self.view_is l in
    let accepted = accepted_by c.args.self.now (Creates (path_of c.args.path) (option_map (λ v. v.items) c.args.bytes) (pos 0))
    c.takes.result (subst IsSound c.self.view_is c.self.invariant.0) c.takes.ensures c.if-not-takes.false in
    (none, accepted)

pub invariant_of-self-in_default : goal.invariant_of-self-in_default
invariant_of-self-in_default g c =
    let kept : HistoryView = record {
      nodes = map transaction_of c.self.inside.nodes.items;
      transactions = map transaction_of c.self.inside.transactions.items;
    } in
    let l : length c.self.inside.transactions.items ≡ 0 = grind (arith, nat_tests) in
    let accepted = accepted_by c.args.self.now (Creates (path_of c.args.path) (option_map (λ v. v.items) c.args.bytes) (pos 0))
    c.takes.result (subst IsSound c.self.view_is c.self.invariant.0) c.takes.ensures c.if-not-takes.false in
    let here = subst (λ (k : HistoryView). IsAccepted (Creates (path_of c.args.path) (option_map (λ v. v.items) c.args.bytes) (pos 0))
    (newest_tree k)) (sym c.self.view_is) accepted in
    let none = was_empty transaction_of c.self.inside.transactions.items (map transaction_of c.self.inside.nodes.items) kept refl l in
    let content = option_map (λ v. v.items) c.args.bytes in
    let old = versions_of c.self.inside.versions in
    let len : c.len.result ≡ length (map transaction_of c.self.inside.nodes.items) =
    grind (arith, nat_tests, length-map c.self.inside.nodes.items transaction_of) in
    let P : List model.Transaction → Type 0 = λ ns.
    IsSound (record { nodes = ns; transactions = map transaction_of c.self.inside.transactions.items })
    × IsIndexed (record { nodes = ns; transactions = map transaction_of c.self.inside.transactions.items })
    (versions_of c.note.new.versions) in
    let indexed = IsIndexed-node kept (path_of c.args.path) content _ old (versions_of c.note.new.versions) none
    (λ text is. on_ok_is c.note.result c.is_err.result c.is_err.ensures.value c.if-is_err.false c.note.ensures.ok text is
    ∙ ap (λ n. versions_after 0 (to_z w64 (of_z w64 c.args.time)) (First n) text
    (Creates (path_of c.args.path) (option_map (λ v. v.items) c.args.bytes) (pos 0)) (old text)) len)
    c.self.invariant.1 in
    subst P (sym c.in_default.ensures.ok) (IsSound-node kept (path_of c.args.path) content _ c.self.invariant.0 none here, indexed)
