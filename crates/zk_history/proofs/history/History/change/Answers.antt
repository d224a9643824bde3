-- The test of `takes` decides (`accepted_by`, `refused_by`). A change that is taken leaves the history sound (`IsSound-change`) and its
-- versions right (`IsIndexed-change`); a refusal for memory leaves the versions as they were (`IsIndexed-same`, `noted_forgotten`).
use Rattle.std.proofs.Common.{◌≡◌, List, map, refl, sym, ap, ◌∙◌, subst, arith, length}
use Rattle.std.proofs.lemmas.Bool.Decides.{nat_tests}
use Rattle.zk_nodes.specs.History as model
use Rattle.zk_history.specs.declared.change.Transaction.{Transaction}
use Rattle.zk_history.specs.Made.{change_of, transaction_of}
use Rattle.zk_history.specs.HistoryView.{HistoryView, IsSound, newest_tree, IsAccepted}
use Rattle.zk_history.proofs.ViewLemmas.{refused_by, accepted_by, IsSound-change, was_some}
use Rattle.zk_history.specs.Versions.{versions_of, IsIndexed}
use Rattle.zk_history.specs.inner.Versions.{versions_after, versions_before, last_transaction, next_origin}
use Rattle.zk_history.proofs.VersionsLemmas.{on_err_is, on_ok_is}
use Rattle.zk_history.proofs.IndexLemmas.{can_be_noted, IsIndexed-change, IsIndexed-same}
use Rattle.zk_history.proofs.SmallLemmas.{noted_forgotten}
use Rattle.zk_history.proofs.history.History.change.Goals as goal

pub returns-then-not-takes-clause-refused : goal.returns-then-not-takes-clause-refused
returns-then-not-takes-clause-refused g c =
    let l : length c.self.inside.transactions.items ≡ 0 → ⊥ = λ e. grind (arith, nat_tests, e) in (
      was_some transaction_of c.self.inside.transactions.items
          (map transaction_of c.self.inside.nodes.items) c.args.self.now c.self.view_is l,
      refused_by c.args.self.now (change_of c.args.change) c.takes.result
          (subst IsSound c.self.view_is c.self.invariant.0) c.takes.ensures c.if-not-takes.true,
    )

pub returns-clause-accepted : goal.returns-clause-accepted
returns-clause-accepted g c = accepted_by c.args.self.now (change_of c.args.change) c.takes.result
    (subst IsSound c.self.view_is c.self.invariant.0) c.takes.ensures c.if-not-takes.false

pub note-requires : goal.note-requires
note-requires g c =
    let kept : HistoryView = record {
      nodes = map transaction_of c.self.inside.nodes.items;
      transactions = map transaction_of c.self.inside.transactions.items;
    } in
    let accepted = accepted_by c.args.self.now (change_of c.args.change) c.takes.result
    (subst IsSound c.self.view_is c.self.invariant.0) c.takes.ensures c.if-not-takes.false in
    let here = subst (λ (k : HistoryView). IsAccepted (change_of c.args.change) (newest_tree k)) (sym c.self.view_is) accepted in
    record {
      fits =
          can_be_noted kept (versions_of c.self.inside.versions) (change_of c.args.change) c.self.invariant.0 c.self.invariant.1 here;
    }

pub invariant_of-self : goal.invariant_of-self
invariant_of-self g c = (
  c.self.invariant.0,
  IsIndexed-same _ (versions_of c.self.inside.versions) (versions_of c.note.new.versions)
      (λ text is. on_err_is c.note.result c.is_err.result c.is_err.ensures.value c.if-is_err.true c.note.ensures.err text)
      c.self.invariant.1,
)

pub returns-then-is_err-clause-refused : goal.returns-then-is_err-clause-refused
returns-then-is_err-clause-refused g c =
    let l : length c.self.inside.transactions.items ≡ 0 → ⊥ = λ e. grind (arith, nat_tests, e) in
    let some = was_some transaction_of c.self.inside.transactions.items
    (map transaction_of c.self.inside.nodes.items) c.args.self.now c.self.view_is l in
    let accepted = accepted_by c.args.self.now (change_of c.args.change) c.takes.result
    (subst IsSound c.self.view_is c.self.invariant.0) c.takes.ensures c.if-not-takes.false in
    (some, accepted)

pub invariant_of-self-in-Err : goal.invariant_of-self-in-Err
invariant_of-self-in-Err g c =
    let kept : HistoryView = record {
      nodes = map transaction_of c.self.inside.nodes.items;
      transactions = map transaction_of c.self.inside.transactions.items;
    } in
    let s = c.next_spot-spot.result in
    let P : List model.Transaction → Type 0 = λ ts.
    IsSound (record { nodes = map transaction_of c.self.inside.nodes.items; transactions = ts })
    × IsIndexed (record { nodes = map transaction_of c.self.inside.nodes.items; transactions = ts }) (versions_of c.forget.new.versions) in
    let same = IsIndexed-same kept (versions_of c.self.inside.versions) (versions_of c.forget.new.versions)
    (λ text is. noted_forgotten s.zxid s.time s.origin text (change_of c.args.change) (versions_of c.self.inside.versions text)
    (versions_of c.note.new.versions text) (versions_of c.forget.new.versions text)
    (on_ok_is c.note.result c.is_err.result c.is_err.ensures.value c.if-is_err.false c.note.ensures.ok text is) (c.forget.ensures text is
    ∙ ap (λ change. versions_before text (change_of change) (versions_of c.note.new.versions text)) c.in-Err.ensures.back))
    c.self.invariant.1 in
    subst P (sym c.in-Err.ensures.err) (c.self.invariant.0, same)

pub returns-in-Err-clause-refused : goal.returns-in-Err-clause-refused
returns-in-Err-clause-refused g c =
    let l : length c.self.inside.transactions.items ≡ 0 → ⊥ = λ e. grind (arith, nat_tests, e) in
    let some = was_some transaction_of c.self.inside.transactions.items
    (map transaction_of c.self.inside.nodes.items) c.args.self.now c.self.view_is l in
    let accepted = accepted_by c.args.self.now (change_of c.args.change) c.takes.result
    (subst IsSound c.self.view_is c.self.invariant.0) c.takes.ensures c.if-not-takes.false in
    (some, accepted)

pub invariant_of-self-in_default : goal.invariant_of-self-in_default
invariant_of-self-in_default g c =
    let kept : HistoryView = record {
      nodes = map transaction_of c.self.inside.nodes.items;
      transactions = map transaction_of c.self.inside.transactions.items;
    } in
    let accepted = accepted_by c.args.self.now (change_of c.args.change) c.takes.result
    (subst IsSound c.self.view_is c.self.invariant.0) c.takes.ensures c.if-not-takes.false in
    let here = subst (λ (k : HistoryView). IsAccepted (change_of c.args.change) (newest_tree k)) (sym c.self.view_is) accepted in
    let l : length c.self.inside.transactions.items ≡ 0 → ⊥ = λ e. grind (arith, nat_tests, e) in
    let some = was_some transaction_of c.self.inside.transactions.items (map transaction_of c.self.inside.nodes.items) kept refl l in
    let change = change_of c.args.change in
    let old = versions_of c.self.inside.versions in
    let s = c.next_spot-spot.result in
    let last = last_transaction (map transaction_of c.self.inside.transactions.items) in
    let zxid = c.next_spot-spot.ensures.zxid
    ∙ ap (λ (xs : List (Transaction g.row.A.Denot)). (last_transaction (map transaction_of xs)).zxid) c.as_slice.ensures.value in
    let time = c.next_spot-spot.ensures.time
    ∙ ap (λ (xs : List (Transaction g.row.A.Denot)). (last_transaction (map transaction_of xs)).time) c.as_slice.ensures.value in
    let origin = c.next_spot-spot.ensures.origin
    ∙ ap (λ (xs : List (Transaction g.row.A.Denot)). next_origin (map transaction_of xs)) c.as_slice.ensures.value in
    let P : List model.Transaction → Type 0 = λ ts.
    IsSound (record { nodes = map transaction_of c.self.inside.nodes.items; transactions = ts })
    × IsIndexed (record { nodes = map transaction_of c.self.inside.nodes.items; transactions = ts }) (versions_of c.note.new.versions) in
    let indexed = IsIndexed-change kept change old (versions_of c.note.new.versions) some
    (λ text is. on_ok_is c.note.result c.is_err.result c.is_err.ensures.value c.if-is_err.false c.note.ensures.ok text is
    ∙ ap (λ z. versions_after z s.time s.origin text change (old text)) zxid
    ∙ ap (λ t. versions_after last.zxid t s.origin text change (old text)) time
    ∙ ap (λ o. versions_after last.zxid last.time o text change (old text)) origin)
    c.self.invariant.1 in
    subst P (sym c.in_default.ensures.ok) (IsSound-change kept change c.self.invariant.0 here, indexed)
