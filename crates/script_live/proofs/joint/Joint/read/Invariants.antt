-- Loop over the waits: some unsent bytes were written, and nothing was read. So the last exchange alone brings the piece.
use Rattle.std.proofs.Common.{◌≡◌, []}
use Rattle.zk_link.specs.Written.{IsLeftOf}
use Rattle.script_live.specs.Exchanged.{known_of, Exchanges}
use Rattle.script_live.specs.Trails.{bare_of}
use Rattle.script_live.proofs.joint.Joint.read.Given as goal

-- what was read so far has changed nothing of it but what is left to be written, and has brought nothing
abbrev pub invariant-loop : goal.invariant-loop
invariant-loop g l = record {
  trail : bare_of l.self ≡ bare_of l.fn.self;
  unsent : IsLeftOf l.fn.self.unsent.items l.self.unsent.items;
  whole : Exchanges l.fn.self.unsent.items l.self.unsent.items (known_of g.S.Read.remaining g.S.Write.contents l.fn.self.stream)
      (known_of g.S.Read.remaining g.S.Write.contents l.self.stream) [];
}
