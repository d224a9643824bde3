-- One entry more is one transaction more: `entries_more`, `told_more`, `stops_more`. At the end none is left.
use Rattle.std.proofs.Common.{◌≡◌, rules, ap, sym, ◌∙◌, [], drop, map, subst}
use Rattle.std.proofs.lemmas.List.{drop_all}
use Rattle.zk_log.specs.Views.{entry_of, placed_of}
use Rattle.zk_log_history.specs.Following.{with_entries}
use Rattle.zk_log_history.specs.Refused.{AreTold, StopsAt}
use Rattle.zk_log_history.proofs.Entries.{entries_more}
use Rattle.zk_log_history.proofs.Refused.{on_err, told_more, stops_more, stops_here}
use Rattle.zk_log_history.proofs.logged_history.LoggedHistory.with.Goals as goal

pub loop-one-init : goal.loop-one-init
loop-one-init g c = (
  ap (λ kept. with_entries kept (map (λ one. entry_of one.entry) c.args.entries.now)) c.self.view_is,
  c.self.invariant,
  (λ told. subst (λ kept. AreTold kept (map (λ one. entry_of one.entry) c.args.entries.now)) c.self.view_is told),
  (λ fault stops. subst (λ kept. StopsAt kept (map placed_of c.args.entries.now) fault) c.self.view_is stops),
)

pub loop-one-preserved : goal.loop-one-preserved
loop-one-preserved g c =
    let added = c.in_ok-follow_placed.ensures.added c.loop-one.invariant.1 in
    let told = c.in_ok-follow_placed.ensures.taken c.loop-one.invariant.1 in (
      entries_more (λ one. entry_of one.entry) c.args.entries.now c.loop-one.one-index c.one-item.result c.loop-one.history
          c.follow_placed.new.history _ (search rules) c.one-item.is added c.loop-one.invariant.0,
      c.in_ok-follow_placed.ensures.made c.loop-one.invariant.1,
      told_more (λ one. entry_of one.entry) c.args.entries.now c.loop-one.one-index c.one-item.result c.loop-one.history
          c.follow_placed.new.history _ (search rules) c.one-item.is added told c.loop-one.invariant.2,
      stops_more placed_of c.args.entries.now c.loop-one.one-index c.one-item.result c.loop-one.history
          c.follow_placed.new.history _ (search rules) c.one-item.is added told c.loop-one.invariant.3,
    )

pub returns-clause-told : goal.returns-clause-told
returns-clause-told g c =
    let none : drop c.loop-one.one-index c.args.entries.now ≡ [] =
    drop_all c.loop-one.one-index c.args.entries.now c.loop-one-test.false in
    sym (ap (λ left. with_entries c.loop-one.history (map (λ one. entry_of one.entry) left)) none) ∙ c.loop-one.invariant.0

pub returns-clause-taken : goal.returns-clause-taken
returns-clause-taken g c =
    let none : drop c.loop-one.one-index c.args.entries.now ≡ [] =
    drop_all c.loop-one.one-index c.args.entries.now c.loop-one-test.false in
    c.loop-one.invariant.2 (subst (λ left. AreTold c.loop-one.history (map (λ one. entry_of one.entry) left)) (sym none) tt)

pub returns-in_err-follow_placed-clause-refused : goal.returns-in_err-follow_placed-clause-refused
returns-in_err-follow_placed-clause-refused g c =
    let why = c.in_err-follow_placed.ensures.refused c.loop-one.invariant.1 in
    on_err c.from_residual.result c.in_err-follow_placed.field-0.0 (StopsAt c.args.self (map placed_of c.args.entries.now))
    c.from_residual.ensures.1
    (c.loop-one.invariant.3 _ (stops_here placed_of c.args.entries.now c.loop-one.one-index c.one-item.result c.loop-one.history _
    (search rules) c.one-item.is why.0 why.1))
