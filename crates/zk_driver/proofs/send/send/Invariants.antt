-- The loop of writes: what was written and what is left are what was unsent, and nothing was read; and so it went at the far end. So it is
-- wherever the loop ends.
use Rattle.std.specs.Prelude.{[], Some}
use Rattle.std.specs.Io.KnownBytes.{Keeps}
use Rattle.zk_link.specs.Written.{IsLeftOf}
use Rattle.zk_link.specs.FarEnds.{Trades}
use Rattle.zk_link.specs.Streams.{Sends}
use Rattle.zk_driver.proofs.send.send.Given as goal

-- what was written so far
abbrev pub invariant-loop : goal.invariant-loop
invariant-loop g l = record {
  left : IsLeftOf l.fn.unsent.items l.unsent.items;
  sends : Sends l.fn.unsent.items l.unsent.items (g.S.Write.contents l.fn.stream) (g.S.Write.contents l.stream);
  gives : Keeps (g.S.Read.remaining l.fn.stream) (g.S.Read.remaining l.stream);
  trades : Trades g.S.Stream.far l.fn.unsent.items l.unsent.items [] (Some (g.S.Stream.state l.fn.stream))
      (Some (g.S.Stream.state l.stream));
}
