-- The type's invariant, that each call handed over waits for its reply, also of the one that is handed over now: `hands_asked`.
use Rattle.zk_client.specs.Clients.{view_of}
use Rattle.zk_agent.specs.Telling.{told_by}
use Rattle.zk_agent.proofs.Handing.{hands_asked}
use Rattle.zk_agent.proofs.asker.Asker.hand_over.Goals as goal

pub invariant_of-self : goal.invariant_of-self
invariant_of-self g c =
    record {
      asked = hands_asked c.args.now (view_of c.args.self.now.follower.client) c.args.self.now.follower.subjects.items
          c.args.self.now.line.entries.items (told_by c.args.actions.now.items)
          (view_of c.hand_over.new.follower.client) c.hand_over.new.follower.subjects.items c.hand_over.new.line.entries.items
          (told_by c.hand_over.new.actions.items) c.in-Ok.heard
          c.in-Ok.ensures.hands c.args.self.now.asked;
    }
