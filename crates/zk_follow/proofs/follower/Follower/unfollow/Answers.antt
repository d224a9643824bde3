-- What holds of all subjects holds of those that `remove` leaves: `All-filter`. None is in the index.
use Rattle.std.proofs.Common.{◌==◌, not, sym, subst}
use Rattle.std.specs.Prelude.{All}
use Rattle.std.proofs.lemmas.List.Elements.{All-filter}
use Rattle.zk_client.specs.Clients.{view_of}
use Rattle.zk_follow.specs.Following.{is_quiet, is_still, IsCounted}
use Rattle.zk_follow.proofs.Finding.{none_but, none_found}
use Rattle.zk_follow.proofs.follower.Follower.unfollow.Goals as goal

pub invariant_of-self : goal.invariant_of-self
invariant_of-self g c =
    let view = view_of c.args.self.now.client in
    record {
      counted = subst (All (IsCounted view)) (sym c.remove.ensures)
          (All-filter (λ subject. not (subject.ticket == c.args.ticket))
          (IsCounted view) c.args.self.now.subjects.items c.args.self.now.counted);
      found = none_found c.new.result c.remove.new.subjects.items c.new.ensures;
      still = none_but (is_still view) c.new.result.count c.remove.new.subjects.items _ c.new.ensures;
      rest = none_but (is_quiet view) c.new.result.count c.remove.new.subjects.items _ c.new.ensures;
      own = c.is_foreign_still-self.ensures c.remove.new.subjects.items (λ going. absurd cc);
    }
