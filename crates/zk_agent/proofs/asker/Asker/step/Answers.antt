-- The type's invariant, that each call handed over waits for its reply, after an input: `still_asked`, as the line heard all outputs.
use Rattle.zk_client.specs.Clients.{view_of}
use Rattle.zk_client.specs.Views.{input_view}
use Rattle.zk_agent.proofs.Lines.{still_asked}
use Rattle.zk_agent.proofs.asker.Asker.step.Goals as goal

pub invariant_of-self : goal.invariant_of-self
invariant_of-self g c =
    let takes = c.in-Ok.ensures.takes in
    record {
      asked = still_asked c.args.now (view_of c.args.self.now.follower.client)
          (input_view c.args.input) c.args.self.now.follower.subjects.items (view_of c.advance.new.follower.client)
          takes.given takes.stepped c.args.self.now.line.entries.items c.advance.new.line.entries.items takes.steps
          takes.line c.args.self.now.asked;
    }
