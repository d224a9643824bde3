-- One more version leaves the walk's end as it is: its change is applied to the names where its zxid is not above `z`, as the first step
-- of `names_told` over what is left does, by `walk_more`.
use Rattle.std.proofs.Common.{◌≡◌, ◌∷◌, ◌+◌, arith, refl, None, get_or, drop, map, sym, ap, ◌∙◌, leb, cond, true, false}
use Rattle.std.proofs.lemmas.Bool.{cond-true, cond-false}
use Rattle.std.proofs.lemmas.Bool.Decides.{nat_tests}
use Rattle.std.proofs.lemmas.List.{drop_more}
use Rattle.zk_history.specs.declared.version.Version.{Version}
use Rattle.zk_history.specs.declared.version.Origin.TheVariants.{Root}
use Rattle.zk_nodes.specs.Path.{path_of}
use Rattle.zk_history.specs.HistoryView.{HistoryView}
use Rattle.zk_history.specs.Made.{transaction_of}
use Rattle.zk_nodes.specs.inner.Names.{names_of}
use Rattle.zk_history.specs.Versions.{change_at, names_by, names_told}
use Rattle.zk_history.proofs.ReplayLemmas.{walk_more}
use Rattle.zk_history.proofs.names.names_after_versions.Goals as goal
use Rattle.zk_history.proofs.names.names_after_versions.Goals.{then-version-z+in_ok-names_after_origin, else-version-z}

pub loop-version-preserved : goal.loop-version-preserved
loop-version-preserved g c =
    let kept : HistoryView =
    record { nodes = map transaction_of c.args.nodes.now; transactions = map transaction_of c.args.transactions.now } in
    let p = path_of c.args.at.now in
    let vs = c.args.versions.now in
    let i = c.loop-version.version-index in
    let blank : Version = record { zxid = 0; origin = Root; entry = None; children = 0 } in
    let one = get_or vs i blank in
    let held = names_of c.loop-version.names in
    let step : names_of c.if-version-z.names ≡ cond (leb one.zxid c.args.z) (names_by p (change_at kept one.origin) held) held =
    elim c.if-version-z.branch [
      | then-version-z+in_ok-names_after_origin w ↦
          let yes : leb one.zxid c.args.z ≡ true = grind (arith, nat_tests) in
          ap names_of w.names-is ∙ w.in_ok-names_after_origin.ensures ∙ sym (cond-true (leb one.zxid c.args.z) _ _ yes)
      | else-version-z w ↦
          let no : leb one.zxid c.args.z ≡ false = grind (arith, nat_tests) in
          ap names_of w.names-is ∙ sym (cond-false (leb one.zxid c.args.z) _ _ no)
    ] in
    let next : drop i vs ≡ one ∷ drop (i + 1) vs = drop_more vs i blank c.loop-version-test.true in
    walk_more (names_told kept p c.args.z) one _ _ held (names_of c.if-version-z.names) _ _ next refl c.loop-version.invariant step
