-- The names change by the change at place `j` of transaction `i`, or not at all where there is none: reading an element of a mapped list
-- is mapping what is read (`slice_get-map`), and what `get` gives is that element, or the place is past the end.
use Rattle.std.proofs.Common.{◌≡◌, List, Some, None, map, option_map, length, refl, sym, ap, ◌∙◌}
use Rattle.std.proofs.lemmas.Option.{slice_get-map, slice_get_read, slice_get_past}
use Rattle.std.specs.Prelude.{slice_get}
use Rattle.zk_history.specs.declared.change.Change.{Change}
use Rattle.zk_nodes.specs.Path.{path_of}
use Rattle.zk_history.specs.Made.{change_of, transaction_of}
use Rattle.zk_nodes.specs.inner.Names.{names_of}
use Rattle.zk_history.specs.Versions.{names_by, nth_change}
use Rattle.zk_history.proofs.ViewLemmas.{OnOk-map}
use Rattle.zk_history.proofs.names.names_after_nth.Goals as goal

pub returns-in-Some-get : goal.returns-in-Some-get
returns-in-Some-get g c =
    let one = c.in-Some.transaction.now in
    let ys = c.deref.result.now in
    let there : nth_change (slice_get (map transaction_of c.args.transactions.now) c.args.i) c.args.j
    ≡ slice_get (map change_of one.changes.items) c.args.j =
    ap (λ o. nth_change o c.args.j) (slice_get-map transaction_of c.args.transactions.now c.args.i
    ∙ ap (option_map transaction_of) (slice_get_read c.args.transactions.now
    (length c.args.transactions.now) c.args.i one refl c.in-Some.ensures.lookup.3.0 c.in-Some.ensures.lookup.1)) in
    let found : nth_change (slice_get (map transaction_of c.args.transactions.now) c.args.i) c.args.j
    ≡ Some (change_of c.in-Some-get.change.now) =
    there ∙ slice_get-map change_of one.changes.items c.args.j
    ∙ ap (option_map change_of)
    (ap (λ (xs : List (Change g.row.A.Denot)). slice_get xs c.args.j) (sym c.deref.ensures.value) ∙ slice_get_read ys
    (length ys) c.args.j c.in-Some-get.change.now refl c.in-Some-get.ensures.lookup.3.0 c.in-Some-get.ensures.lookup.1) in
    OnOk-map c.names_after.result
    (λ h. h ∙ ap (λ o. names_by (path_of c.args.at.now) o (names_of c.args.names.now)) (sym found)) c.names_after.ensures

pub returns-in_default-get : goal.returns-in_default-get
returns-in_default-get g c =
    let one = c.in-Some.transaction.now in
    let ys = c.deref.result.now in
    let there : nth_change (slice_get (map transaction_of c.args.transactions.now) c.args.i) c.args.j
    ≡ slice_get (map change_of one.changes.items) c.args.j =
    ap (λ o. nth_change o c.args.j) (slice_get-map transaction_of c.args.transactions.now c.args.i
    ∙ ap (option_map transaction_of) (slice_get_read c.args.transactions.now
    (length c.args.transactions.now) c.args.i one refl c.in-Some.ensures.lookup.3.0 c.in-Some.ensures.lookup.1)) in
    let none : nth_change (slice_get (map transaction_of c.args.transactions.now) c.args.i) c.args.j ≡ None =
    there ∙ slice_get-map change_of one.changes.items c.args.j
    ∙ ap (option_map change_of) (ap (λ (xs : List (Change g.row.A.Denot)). slice_get xs c.args.j) (sym c.deref.ensures.value)
    ∙ slice_get_past ys c.args.j c.in_default-get.ensures.lookup.3) in
    ap (λ o. names_by (path_of c.args.at.now) o (names_of c.args.names.now)) (sym none)

pub returns-in_default : goal.returns-in_default
returns-in_default g c =
    let none : nth_change (slice_get (map transaction_of c.args.transactions.now) c.args.i) c.args.j ≡ None =
    ap (λ o. nth_change o c.args.j) (slice_get-map transaction_of c.args.transactions.now c.args.i
    ∙ ap (option_map transaction_of) (slice_get_past c.args.transactions.now c.args.i c.in_default.ensures.lookup.3)) in
    ap (λ o. names_by (path_of c.args.at.now) o (names_of c.args.names.now)) (sym none)
