-- The lists stay sound when a short path comes to side Child, where there is room: `sound-child`.
use Rattle.std.proofs.Common.{◌≡◌, ◌<◌, false, subst, sym}
use Rattle.zk_nodes.specs.declared.side.Side.TheVariants.{Child}
use Rattle.zk_watches.specs.Lists.{side_has, count_of}
use Rattle.zk_watches.proofs.SoundLemmas.{sound-child}
use Rattle.zk_watches.proofs.registry.Registry.add_to_child.Goals as goal
use Rattle.zk_limits.specs.declared.limits.TheConstants.{MOST_PATHS}

pub invariant_of-self-2 : goal.invariant_of-self-2
invariant_of-self-2 g c =
    rw c.in_ok-add.ensures.ok (sound-child _ _ c.self.invariant (subst (λ l. side_has l Child c.args.text.now ≡ false
    → count_of l Child < MOST_PATHS) (sym c.self.view_is) c.requires.room) c.requires.short false)
