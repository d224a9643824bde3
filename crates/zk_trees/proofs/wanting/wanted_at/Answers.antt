-- One root is one step of the fold.
use Rattle.std.proofs.Common.{List, ap, refl, subst, false}
use Rattle.zk_client.specs.Clients.{view_of}
use Rattle.zk_trees.specs.Trees.{aims_of, wants_of, IsWanted, Wants}
use Rattle.zk_trees.proofs.wanting.wanted_at.Goals as goal

pub returns : goal.returns
returns g c =
    let first = ap (λ (l : List _). record { aims = aims_of l; is_bounded = false }) c.new.ensures.items in (
      wants_of c.add_wanted.new.wanted,
      subst (λ (wants : Wants). IsWanted (view_of c.args.client.now) c.args.most c.args.root.now wants (wants_of c.add_wanted.new.wanted))
          first
          c.in_ok-add_wanted.ensures,
      refl,
    )
