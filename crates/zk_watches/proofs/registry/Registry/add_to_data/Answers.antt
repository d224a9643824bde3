-- The lists stay sound when a path comes to one list of side Data and leaves the other: `sound-there`, `sound-absent`. One that was there
-- already is not in the other list, so there is nothing to take out: `exist-same`, `data-same`.
use Rattle.std.proofs.Common.{◌≡◌, ◌<◌, false, subst, sym, ◌∙◌}
use Rattle.std.proofs.lemmas.Bool.{not-false}
use Rattle.zk_nodes.specs.declared.side.Side.TheVariants.{Data}
use Rattle.zk_watches.specs.Lists.{side_has, count_of, registered}
use Rattle.zk_watches.proofs.SoundLemmas.{exist-same, data-same, sound-there, sound-absent}
use Rattle.zk_watches.proofs.registry.Registry.add_to_data.Goals as goal
use Rattle.zk_limits.specs.declared.limits.TheConstants.{MOST_PATHS}

pub invariant_of-self-then-branch : goal.invariant_of-self-then-branch
invariant_of-self-then-branch g c =
    rw (c.in_ok-add.ensures.ok, c.take_out.ensures.rest) (sound-there _ _ c.self.invariant (subst (λ l. side_has l Data c.args.text.now
    ≡ false → count_of l Data < MOST_PATHS) (sym c.self.view_is) c.requires.room) c.requires.short)

pub invariant_of-self-then-branch-2 : goal.invariant_of-self-then-branch-2
invariant_of-self-then-branch-2 g c =
    rw (c.in_ok-add-2.ensures.ok, c.take_out-then-branch-2.ensures.rest) (sound-absent _ _ c.self.invariant (subst (λ l.
    side_has l Data c.args.text.now ≡ false → count_of l Data < MOST_PATHS) (sym c.self.view_is) c.requires.room) c.requires.short)

pub invariant_of-self-then-branch-3 : goal.invariant_of-self-then-branch-3
invariant_of-self-then-branch-3 g c =
    rw (c.in_ok-add.ensures.ok, c.take_out.ensures.rest) (sound-there _ _ c.self.invariant (subst (λ l. side_has l Data c.args.text.now
    ≡ false → count_of l Data < MOST_PATHS) (sym c.self.view_is) c.requires.room) c.requires.short)

pub invariant_of-self-then-branch-2-2 : goal.invariant_of-self-then-branch-2-2
invariant_of-self-then-branch-2-2 g c =
    rw (c.in_ok-add-2.ensures.ok, c.take_out-then-branch-2.ensures.rest) (sound-absent _ _ c.self.invariant (subst (λ l.
    side_has l Data c.args.text.now ≡ false → count_of l Data < MOST_PATHS) (sym c.self.view_is) c.requires.room) c.requires.short)

pub returns-else-branch-clause-ok : goal.returns-else-branch-clause-ok
returns-else-branch-clause-ok g c =
    let same = exist-same _ c.args.text.now c.self.invariant (not-false _ (sym c.in_ok-add.ensures.is_new ∙ c.if-branch.false)) in
    (λ i. record { data_watches = c.in_ok-add.ensures.ok i; exist_watches = sym same i; child_watches = c.self.inside.child_watches })
    ∙ (λ i. registered (c.self.view_is i) Data (sym c.if-present.true i) c.args.text.now)

pub returns-else-branch-2-clause-ok : goal.returns-else-branch-2-clause-ok
returns-else-branch-2-clause-ok g c =
    let same = data-same _ c.args.text.now c.self.invariant (not-false _ (sym c.in_ok-add-2.ensures.is_new ∙ c.if-branch-2.false)) in
    (λ i. record { data_watches = sym same i; exist_watches = c.in_ok-add-2.ensures.ok i; child_watches = c.self.inside.child_watches })
    ∙ (λ i. registered (c.self.view_is i) Data (sym c.if-present.false i) c.args.text.now)
