-- Loop over the pieces until the server answers: the client took what came so far, and its words are printed. Exits add at most the end.
use Rattle.std.specs.Prelude.{string_bytes}
use Rattle.zk_client.specs.Clients.{view_of}
use Rattle.script_live.specs.Flowing.{flow_of}
use Rattle.script_live.specs.Heard.{tape, Brings}
use Rattle.script_live.specs.Printed.{Prints}
use Rattle.script_live.proofs.link.Link.settle.Given as goal

-- what the connection has brought so far
abbrev pub invariant-loop : goal.invariant-loop
invariant-loop g l = record {
  brings : Brings (tape (view_of l.initial.self.joint.client) (string_bytes l.initial.text))
      (tape (view_of l.self.joint.client) (string_bytes l.text));
  flows : Prints (flow_of g.S.Read.remaining g.S.Write.contents l.initial.self.joint)
      (flow_of g.S.Read.remaining g.S.Write.contents l.self.joint) (string_bytes l.initial.text) (string_bytes l.text);
}
