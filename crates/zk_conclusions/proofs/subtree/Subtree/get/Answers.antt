-- What passes `has_data` is found and good (`found_full`; `never_none`), and fits the history's tree (`data_fits`). What doesn't pass is
-- none of the subtree's paths: `not_among`.
use Rattle.std.proofs.Common.{refl, sym, ◌∙◌}
use Rattle.zk_client.specs.Clients.{view_of}
use Rattle.zk_conclusions.specs.Seen.{Is}
use Rattle.zk_conclusions.proofs.Truths.{data_fits}
use Rattle.zk_conclusions.proofs.Lent.{found_full, not_among, never_none}
use Rattle.zk_conclusions.proofs.subtree.Subtree.get.Goals as goal

pub returns-then-not-has_data-clause-none : goal.returns-then-not-has_data-clause-none
returns-then-not-has_data-clause-none g c e there =
    not_among (view_of c.args.self.now.client.now).cache c.args.self.now.paths.items c.args.path.now c.args.self.now.full
    (sym c.has_data.ensures ∙ c.if-not-has_data.true) there

pub returns-in-Some-clause-kept : goal.returns-in-Some-clause-kept
returns-in-Some-clause-kept g c =
    found_full ((view_of c.args.self.now.client.now).cache.nodes c.args.path.now) _
    (sym c.has_data.ensures ∙ c.if-not-has_data.false) c.in-Some.ensures

pub returns-in-Some-clause-holds : goal.returns-in-Some-clause-holds
returns-in-Some-clause-holds g c h served =
    data_fits (Is c.args.path.now) h (view_of c.args.self.now.client.now) c.args.path.now _ served refl
    (returns-in-Some-clause-kept g c)

pub returns-in-None-clause-none : goal.returns-in-None-clause-none
returns-in-None-clause-none g c e there =
    never_none ((view_of c.args.self.now.client.now).cache.nodes c.args.path.now)
    (sym c.has_data.ensures ∙ c.if-not-has_data.false) c.in-None.ensures
