-- One entry more is told, or it stops there: `told_more`, `told_stops_by`. At the end none is left.
use Rattle.std.proofs.Common.{◌≡◌, rules, ap, sym, ◌∙◌, [], drop, map}
use Rattle.std.proofs.lemmas.List.{drop_all}
use Rattle.zk_log.specs.Views.{placed_of}
use Rattle.zk_log_history.specs.Known.{IsStop, entries_told, placed_told}
use Rattle.zk_log_history.proofs.Known.{told_more, told_stops_by}
use Rattle.zk_log_history.proofs.Refused.{on_err}
use Rattle.zk_log_history.proofs.logged_path.LoggedPath.with.Goals as goal

pub loop-one-preserved : goal.loop-one-preserved
loop-one-preserved g c =
    told_more placed_of placed_told c.args.entries.now c.loop-one.one-index c.one-item.result c.loop-one.told c.in_ok-told.told _
    (search rules) c.one-item.is c.in_ok-told.ensures.told c.loop-one.invariant

pub returns-clause-told : goal.returns-clause-told
returns-clause-told g c =
    let none : drop c.loop-one.one-index c.args.entries.now ≡ [] =
    drop_all c.loop-one.one-index c.args.entries.now c.loop-one-test.false in
    sym c.loop-one.invariant ∙ ap (λ left. entries_told (map placed_of left) c.loop-one.told) none

pub returns-in_err-told-clause-refused : goal.returns-in_err-told-clause-refused
returns-in_err-told-clause-refused g c =
    on_err c.from_residual.result c.in_err-told.field-0.0 (IsStop (entries_told (map placed_of c.args.entries.now) c.args.self))
    c.from_residual.ensures.1
    (told_stops_by placed_of placed_told c.args.entries.now c.loop-one.one-index c.one-item.result c.loop-one.told _
    c.in_err-told.field-0.0 (search rules) c.one-item.is c.in_err-told.ensures.refused c.loop-one.invariant)
