-- The loop over those that are looked at: of those so far none is due (`Turns`).
use Rattle.std.proofs.Common.{◌≡◌, nat_eq}
use Rattle.indexmap.specs.IndexMap.{get}
use Rattle.zk_client.specs.Clients.{view_of}
use Rattle.zk_contend.specs.Dues.{IsAsleep, IsAtRest}
use Rattle.zk_contend.proofs.Stirring.{Turns}
use Rattle.zk_contend.proofs.stirred.Stirred.first_due.Given as goal

-- of those so far none is due
abbrev pub invariant-loop-turn : goal.invariant-loop-turn
invariant-loop-turn g l = record {
  turns : Turns (get nat_eq l.all) (IsAtRest (view_of l.client) l.now) (IsAsleep (view_of l.client)) l.fn.self.awake.items l._turn-end
      l._turn l.self.awake.items;
  untold : l.self.untold ≡ l.fn.self.untold;
}
